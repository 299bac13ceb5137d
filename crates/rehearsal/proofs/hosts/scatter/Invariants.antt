-- `rehearsal::scatter` meets its contract: a pass over the inputs that changes the party's own alone. Assumes nothing.
use Prim.Native.Nat.{◌-◌}
use native.Mathlib.Omega.{arith}
use Rattle.circuit.specs.Held.{wires_in}
use Rattle.session.proofs.Circuits.{inputs-made}
use Rattle.lists.proofs.Filled.{filled_whole}
use Rattle.rehearsal.proofs.Own.{ScatterTo, scatter_start, scatter_step}
use Rattle.rehearsal.proofs.hosts.scatter.Given as goal

abbrev pub invariant-loop-w : goal.invariant-loop-w
invariant-loop-w l = ScatterTo l.party (wires_in l.circuit) l.mine l.initial.externals l.w l.count l.externals

abbrev pub decreases-loop-w : goal.decreases-loop-w
decreases-loop-w l = l.circuit.inputs - l.w
