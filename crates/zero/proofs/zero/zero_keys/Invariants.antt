-- `zero::zero::zero_keys` meets its contract: block by block, a wire each, with the cursor over the records.
-- Assumes nothing.
use mathlib.Core.Path.{◌≡◌}
use Prim.Native.Nat.{◌*◌}
use Rattle.lists.proofs.Steps.{Level}
use Rattle.circuit.specs.Held.{wires_in}
use Rattle.scheme.specs.Contribution.{record_at}
use Rattle.scheme.specs.Zero.{zero_key}
use Rattle.zero.specs.Ready.{drawn_in}
use Rattle.zero.proofs.zero.zero_keys.Given as goal

abbrev pub invariant-loop-wire : goal.invariant-loop-wire
invariant-loop-wire l = (l.at ≡ record_at l.drawn.k (wires_in l.fn.circuit) l.wire-index) × Level l.initial.keys 0 l.wire-index l.fn.circuit.made (l.drawn.n * l.drawn.k) (zero_key (wires_in l.fn.circuit) (drawn_in l.fn.circuit l.drawn.n l.drawn.k l.drawn.contributions.now)) l.to l.keys
