-- `shake::squeeze_numbers` meets its contract: the lanes that are read are the numbers of the definition (`Squeezed.antt`).
-- Assumes nothing.
use mathlib.Core.Path.{◌∙◌}
use borrow.Author.Rules.{rules}
use lib.ListN.{length}
use Rattle.shake.proofs.Squeezed.{lanes_squeezed}
use Rattle.shake.proofs.squeeze_numbers.Goals as goal

pub returns : goal.returns
returns c =
    c.squeeze_places.ensures
    ∙ lanes_squeezed (length c.args.out.now) c.args.state (search rules) (λ i h. let f : mir.Val.Fits mir.Syntax.w64 (lib.ListN.get_or c.args.state i 0) = search rules in f.fits)
