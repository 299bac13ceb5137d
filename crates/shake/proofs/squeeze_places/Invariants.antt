-- `shake::squeeze_places` meets its contract. The loop's invariant: what is written and what is still to come are the whole (`Stream.antt`).
-- Assumes nothing.
use lib.ListN.{length}
use Rattle.shake.proofs.Stream.{Written}
use Rattle.shake.proofs.squeeze_places.Given as goal

abbrev pub invariant-loop-place : goal.invariant-loop-place
invariant-loop-place g l = let p = g.P.Place in Written p.BLOCK p.reads l.initial.lanes (length l.initial.out) l.out l.lanes l.at l.place-index
