-- `rehearsal::picked` meets its contract: a pass over the wires, each written to the place after the party's last. Assumes nothing.
use Prim.Native.Nat.{◌-◌, ◌≤◌}
use native.Mathlib.Omega.{arith}
use Rattle.circuit.specs.Held.{wires_in}
use Rattle.rehearsal.proofs.Own.{OwnTo, own_start, own-step, own-front}
use Rattle.rehearsal.proofs.hosts.picked.Given as goal

abbrev pub invariant-loop-w : goal.invariant-loop-w
invariant-loop-w l = (l.w ≤ l.circuit.made) × OwnTo l.party (wires_in l.circuit) l.all l.w l.count l.out

abbrev pub decreases-loop-w : goal.decreases-loop-w
decreases-loop-w l = l.circuit.made - l.w
