-- `writer::items::lay_item` meets its contract: nothing was refused, or nothing happens.
-- Assumes nothing.
use Rattle.writer.specs.Desk.{desk}
use Rattle.writer.proofs.Desks.{lay_off, lay_on}
use Rattle.writer.proofs.items.lay_item.Goals as goal

pub item_on-requires : goal.item_on-requires
item_on-requires c = (c.in-Ok.is, c.requires.0, c.requires.1)

pub returns-in-Ok : goal.returns-in-Ok
returns-in-Ok c = let a = c.args in
    lay_on a.lay a.place a.item (desk a.pen.now a.moduli.now a.file.now) c.in-Ok.is c.item_on.ensures

pub returns-in-Err : goal.returns-in-Err
returns-in-Err c = let a = c.args in
    lay_off a.lay a.place a.item (desk a.pen.now a.moduli.now a.file.now) c.in-Err.is
