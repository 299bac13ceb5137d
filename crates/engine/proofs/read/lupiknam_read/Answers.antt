-- `lupiknam_read` meets its contract: accepted, six counts; refused, six numbers as they were. Assumes nothing.
use Rattle.engine.proofs.Faces.{read_accepted, read_refused}
use Rattle.engine.proofs.read.lupiknam_read.Goals as goal

pub returns-in-Ok : goal.returns-in-Ok
returns-in-Ok c = read_accepted _ _ _ _ _ _ _ c.in-Ok.ensures.ok c.into.ensures

pub returns-in-Err : goal.returns-in-Err
returns-in-Err c = read_refused _ _ _ _ _ _ _ c.in-Err.ensures.err c.into-in-Err.ensures
