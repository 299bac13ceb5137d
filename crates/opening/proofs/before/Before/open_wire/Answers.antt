-- `opening::open_wire` meets its contract: each arm knows the recipe, so what its kind rests on. Assumes nothing.
use Rattle.scheme.specs.Opening.{open_from}
use Rattle.opening.specs.Step.{open_by, open_at}
use Rattle.opening.proofs.Turns.{made_by}
use Rattle.opening.proofs.before.Before.open_wire.Goals as goal

pub returns-in-Entered : goal.returns-in-Entered
unfolding open_at open_by open_from
returns-in-Entered c = made_by c.args.turn _ _ _ _ _ _ c.in-Entered.is c.input.ensures

pub returns-in-Sum : goal.returns-in-Sum
unfolding open_at open_by open_from
returns-in-Sum c = made_by c.args.turn _ _ _ _ _ _ c.in-Sum.is c.sum.ensures

pub returns-in-Multiple : goal.returns-in-Multiple
unfolding open_at open_by open_from
returns-in-Multiple c = made_by c.args.turn _ _ _ _ _ _ c.in-Multiple.is c.multiple.ensures

pub returns-in-Table : goal.returns-in-Table
unfolding open_at open_by open_from
returns-in-Table c = made_by c.args.turn _ _ _ _ _ _ c.in-Table.is c.by_table.ensures

pub returns-in-Product : goal.returns-in-Product
unfolding open_at open_by open_from
returns-in-Product c = made_by c.args.turn _ _ _ _ _ _ c.in-Product.is c.by_product.ensures

pub returns-in-Choice : goal.returns-in-Choice
unfolding open_at open_by open_from
returns-in-Choice c = made_by c.args.turn _ _ _ _ _ _ c.in-Choice.is c.by_choice.ensures
