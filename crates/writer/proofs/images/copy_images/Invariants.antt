-- `writer::images::copy_images`: the first v bytes are images of the file.
-- Assumes nothing.
use Rattle.std.proofs.Common.{◌≡◌, ℕ, ◌+◌, ◌<◌, get_or}
use Rattle.words.specs.Bits.{word_at, image}
use Rattle.writer.proofs.images.copy_images.Given as goal

abbrev pub invariant-loop-v : goal.invariant-loop-v
invariant-loop-v l = (k : ℕ) → k < l.v → get_or l.table k 0 ≡ image (word_at l.file (l.first + k))
