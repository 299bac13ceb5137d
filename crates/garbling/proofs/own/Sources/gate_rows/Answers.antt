use Rattle.garbling.proofs.Arms.{no_rows, table-rows, product-rows, choice-rows}
use Rattle.garbling.proofs.own.Sources.gate_rows.Goals as goal

pub returns-in-Entered : goal.returns-in-Entered
returns-in-Entered c = no_rows c.requires c.in-Entered.is

pub returns-in-Table : goal.returns-in-Table
returns-in-Table c = table-rows c.requires c.in-Table.is c.put_table.ensures

pub returns-in-Product : goal.returns-in-Product
returns-in-Product c = product-rows c.requires c.in-Product.is c.put_product.ensures

pub returns-in-Choice : goal.returns-in-Choice
returns-in-Choice c = choice-rows c.requires c.in-Choice.is c.put_choice.ensures
