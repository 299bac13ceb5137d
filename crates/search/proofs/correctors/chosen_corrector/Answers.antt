-- `search::correctors::chosen_corrector` meets its contract: the piece is one of the corrector that the bit names.
-- Assumes nothing.
use mathlib.Core.Path.{◌≡◌, sym, ◌∙◌}
use Rattle.lists.specs.Blocks.{part}
use Rattle.search.specs.Corrector.{named_corrector}
use Rattle.search.proofs.Named.{part-first, part-second}
use Rattle.search.proofs.correctors.chosen_corrector.Goals as goal
use Rattle.search.proofs.correctors.chosen_corrector.Goals.{then-bit-eq0, else-bit-eq0}

pub returns : goal.returns
returns c = let a = c.args in
    let named : part c.if-bit-eq0.named.now a.at a.width ≡ part (named_corrector a.bit a.first.now a.second.now) a.at a.width =
    elim c.if-bit-eq0.branch [
      | then-bit-eq0 w ↦ rw w.named-is (sym (part-first _ _ _ _ w.if-bit-eq0.true))
      | else-bit-eq0 w ↦ rw w.named-is (sym (part-second _ _ _ _ _ w.if-bit-eq0.false))
    ] in
    (c.piece.ensures.0 ∙ named, c.piece.ensures.1)
