-- `lupiknam_bundle_join` meets its contract: accepted, the integer; refused, the number as it was. Assumes nothing.
use Rattle.engine.proofs.Faces.{reported, after_call}
use Rattle.engine.proofs.bundle.lupiknam_bundle_join.Goals as goal

pub returns : goal.returns
returns c = let k = c.join.ensures in record { answer = reported c.tell.ensures k.answer; integer_is = after_call c.tell.ensures _ k.answer k.integer }
