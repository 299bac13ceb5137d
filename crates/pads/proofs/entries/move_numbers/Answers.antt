-- `pads::entries::move_numbers` meets its contract: entry by entry, `out` turns into the sum or the difference.
-- Assumes nothing.
use mathlib.Core.Path.{sym, ◌∙◌}
use native.Mathlib.Omega.{arith}
use Rattle.residue.proofs.Vectors.{zip_length}
use Rattle.residue.proofs.InPlace.{turned_none, turned-all}
use Rattle.pads.specs.Moved.{shifted, reduced, moved}
use Rattle.pads.proofs.Reduced.{reduced-length, number-turn}
use Rattle.pads.proofs.entries.move_numbers.Goals as goal

pub loop-i-init : goal.loop-i-init
loop-i-init c = turned_none _ _

pub loop-i-preserved : goal.loop-i-preserved
unfolding moved
loop-i-preserved c = let a = c.args in
    number-turn (shifted a.minus a.f.modulus) a.f.modulus a.numbers.now c.loop-i.invariant c.requires (omega (arith, c.loop-i.invariant.size)) c.shifted.ensures

pub returns : goal.returns
unfolding moved
returns c = let a = c.args in
    turned-all c.loop-i.invariant (zip_length _ a.out.now (reduced a.f.modulus a.numbers.now) (c.requires ∙ sym (reduced-length a.f.modulus a.numbers.now)))
    (omega (arith, c.loop-i.invariant.size))
