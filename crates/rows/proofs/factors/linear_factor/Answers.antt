-- `rows::factors::linear_factor` meets its contract: a product, and what it is added to.
-- Assumes nothing.
use mathlib.Core.Path.{ap, ◌∙◌}
use native.Mathlib.Omega.{arith}
use Rattle.residue.specs.Residue.{add}
use Rattle.rows.proofs.Messages.{mul_small}
use Rattle.rows.proofs.factors.linear_factor.Goals as goal

pub add-requires : goal.add-requires
add-requires c = (c.requires.0, mul_small _ _ (omega (arith, c.requires.1)) c.mul.ensures)

pub returns : goal.returns
returns c = c.add.ensures ∙ ap (add c.args.p c.args.start) c.mul.ensures
