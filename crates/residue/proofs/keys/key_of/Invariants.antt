-- `residue::keys::key_of` meets its contract: entry by entry, `out` turns into the key. Assumes nothing.
use Rattle.residue.specs.Vector.{key_v}
use Rattle.residue.proofs.InPlace.{Turned}
use Rattle.residue.proofs.keys.key_of.Given as goal

abbrev pub invariant-loop-i : goal.invariant-loop-i
invariant-loop-i l = Turned (key_v l.p l.zero l.e l.offset) l.initial.out l.i l.out
