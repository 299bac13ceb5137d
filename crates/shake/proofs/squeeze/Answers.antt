-- `shake::squeeze` meets its contract: the bytes that are read are those of the definition (`Squeezed.antt`).
-- Assumes nothing.
use mathlib.Core.Path.{◌∙◌}
use borrow.Author.Rules.{rules}
use lib.ListN.{length}
use Rattle.shake.proofs.Squeezed.{bytes-squeezed}
use Rattle.shake.proofs.squeeze.Goals as goal

pub returns : goal.returns
returns c = c.squeeze_places.ensures ∙ bytes-squeezed (length c.args.out.now) c.args.state (search rules)
