-- `writer::items::item_on` meets its contract: what `went` leaves, for an item that was judged.
-- Assumes nothing.
use Rattle.writer.proofs.Desks.{room_of, went_so}
use Rattle.writer.proofs.items.item_on.Goals as goal

pub went-requires : goal.went-requires
went-requires c = (c.requires.0, c.requires.1, room_of c.requires.1 c.args.item c.judge-step.ensures, c.requires.2)

pub returns : goal.returns
returns c = let a = c.args in
    went_so a.lay a.place c.encode-w.result a.pen.now a.moduli.now a.file.now a.item c.encode-w.ensures c.judge-step.ensures c.went.ensures
