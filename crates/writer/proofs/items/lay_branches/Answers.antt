-- `writer::items::lay_branches` meets its contract: nothing was refused, or nothing happens.
-- Assumes nothing.
use Rattle.words.specs.declared.item.Item.TheVariants.{Branches}
use Rattle.writer.specs.Desk.{desk}
use Rattle.writer.proofs.Desks.{lay_off, lay_on}
use Rattle.writer.proofs.items.lay_branches.Goals as goal

pub returns-in-Ok : goal.returns-in-Ok
returns-in-Ok c = let a = c.args in
    lay_on a.lay a.place (Branches a.a a.b) (desk a.pen.now a.moduli.now a.file.now) c.in-Ok.is c.branches_on.ensures

pub returns-in-Err : goal.returns-in-Err
returns-in-Err c = let a = c.args in
    lay_off a.lay a.place (Branches a.a a.b) (desk a.pen.now a.moduli.now a.file.now) c.in-Err.is
