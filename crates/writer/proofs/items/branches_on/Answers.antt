-- `writer::items::branches_on` meets its contract: what `went` leaves, for the item that is the branches.
-- Assumes nothing.
use Rattle.words.specs.declared.item.Item.TheVariants.{Branches}
use Rattle.writer.proofs.Desks.{room_of, went_so}
use Rattle.writer.proofs.items.branches_on.Goals as goal

pub went-requires : goal.went-requires
went-requires c = let a = c.args in
    (c.requires.0, c.requires.1, room_of c.requires.1 (Branches a.a a.b) c.branches_item-step.ensures, c.requires.2)

pub returns : goal.returns
returns c = let a = c.args in
    went_so a.lay a.place c.encode-w.result a.pen.now a.moduli.now a.file.now (Branches a.a a.b) c.encode-w.ensures c.branches_item-step.ensures c.went.ensures
