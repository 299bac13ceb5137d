-- `lupiknam_bundle_add` meets its contract: what the part promises, told to C. Assumes nothing.
use Rattle.engine.proofs.Faces.{reported, after_call}
use Rattle.engine.proofs.bundle.lupiknam_bundle_add.Goals as goal

pub returns : goal.returns
returns c = let k = c.write_part-made.ensures in record { answer = reported c.tell.ensures k.answer; file_is = k.file_is; words_is = after_call c.tell.ensures _ k.answer k.words }
