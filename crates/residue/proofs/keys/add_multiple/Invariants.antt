-- `residue::keys::add_multiple` meets its contract: entry by entry, `out` turns into its sum with the multiple, which is a key of
-- zero key `out` and offset `b`. Assumes nothing.
use Rattle.residue.specs.Vector.{key_v}
use Rattle.residue.proofs.InPlace.{Turned}
use Rattle.residue.proofs.keys.add_multiple.Given as goal

abbrev pub invariant-loop-i : goal.invariant-loop-i
invariant-loop-i l = Turned (key_v l.p l.initial.out l.c l.b) l.initial.out l.i l.out
