-- `pair_garbling::pass::put_wires` meets its contract: wire after wire, zero keys and rows in step.
-- Assumes nothing.
use Prim.Native.Nat.{◌*◌}
use Rattle.lists.proofs.Steps.{Steps, Level}
use Rattle.circuit.specs.Held.{wires_in}
use Rattle.pads.specs.Pad.{shake_pad}
use Rattle.pair.specs.Count.{pair_rows_of}
use Rattle.pair.specs.Rows.{zero_key, gate_rows}
use Rattle.pair_garbling.proofs.pass.put_wires.Given as goal

abbrev pub invariant-loop-w : goal.invariant-loop-w
invariant-loop-w l = Level l.initial.keys 0 l.w l.circuit.made l.session.k (zero_key (shake_pad l.session.round) l.session.k l.file (wires_in l.circuit) l.draw) l.place l.keys × Steps l.initial.rows 0 l.w l.circuit.made (λ v. pair_rows_of (wires_in l.circuit) v * l.session.k) (gate_rows (shake_pad l.session.round) l.session.k l.file (wires_in l.circuit) l.draw) l.from l.rows
