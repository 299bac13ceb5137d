-- `residue::keys::scale` meets its contract: entry by entry, `out` turns into the multiple. Assumes nothing.
use Rattle.residue.specs.Vector.{mul_v}
use Rattle.residue.proofs.InPlace.{Turned}
use Rattle.residue.proofs.keys.scale.Given as goal

abbrev pub invariant-loop-x : goal.invariant-loop-x
invariant-loop-x l = Turned (mul_v l.p l.c l.initial.out) l.initial.out l.x-index l.out
