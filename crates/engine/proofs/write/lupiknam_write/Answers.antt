-- `lupiknam_write` meets its contract: the words written, told to C. Assumes nothing.
use Rattle.writer.proofs.Closings.{told_call}
use Rattle.engine.proofs.Faces.{words_tell}
use Rattle.engine.proofs.write.lupiknam_write.Goals as goal

pub returns : goal.returns
returns c = told_call _ c.write.ensures (words_tell c.tell.ensures)
