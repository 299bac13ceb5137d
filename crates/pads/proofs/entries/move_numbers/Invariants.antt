-- `pads::entries::move_numbers` meets its contract: entry by entry, `out` turns into the sum or the difference.
-- Assumes nothing.
use Rattle.residue.proofs.InPlace.{Turned}
use Rattle.pads.specs.Moved.{reduced, moved}
use Rattle.pads.proofs.entries.move_numbers.Given as goal

abbrev pub invariant-loop-i : goal.invariant-loop-i
invariant-loop-i l = Turned (moved l.minus l.f.modulus l.initial.out (reduced l.f.modulus l.numbers)) l.initial.out l.i l.out
