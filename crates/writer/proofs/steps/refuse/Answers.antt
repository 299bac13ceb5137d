-- `writer::steps::refuse` meets its contract: nothing was refused, or nothing happens.
-- Assumes nothing.
use Rattle.writer.proofs.Desks.{refuse_off, refuse_on}
use Rattle.writer.proofs.steps.refuse.Goals as goal

pub returns-in-Ok : goal.returns-in-Ok
returns-in-Ok c moduli file = refuse_on c.args.place c.args.pen.now _ moduli file c.in-Ok.is c.stop.ensures

pub returns-in-Err : goal.returns-in-Err
returns-in-Err c moduli file = refuse_off c.args.place c.args.pen.now moduli file c.in-Err.is
