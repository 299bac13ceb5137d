-- `writer::steps::rest_on` meets its contract: each arm is told what follows.
-- Assumes nothing.
use mathlib.Core.Path.{refl}
use Rattle.writer.specs.Desk.{desk}
use Rattle.writer.proofs.Speeches.{alone_done, branches-done, table_done}
use Rattle.writer.proofs.steps.rest_on.Goals as goal

pub returns-in-Alone : goal.returns-in-Alone
returns-in-Alone c = let a = c.args in
    alone_done a.lay a.tables.now a.place (desk a.pen.now a.moduli.now a.file.now) c.in-Alone.is refl

pub returns-in-Table : goal.returns-in-Table
returns-in-Table c = let a = c.args in
    table_done a.lay a.tables.now a.place (desk a.pen.now a.moduli.now a.file.now) c.in-Table.is (c.lay_table.ensures _)

pub returns-in-Branches : goal.returns-in-Branches
returns-in-Branches c = let a = c.args in
    branches-done a.lay a.tables.now a.place (desk a.pen.now a.moduli.now a.file.now) c.in-Branches.is c.lay_branches.ensures
