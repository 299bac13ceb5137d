-- `writer::laying::put_entries`: the words that are left come to the same. Assumes nothing.
use Rattle.std.proofs.Common.{◌≡◌, ◌+◌, drop}
use Rattle.writer.specs.Desk.{put_words, entry_words}
use Rattle.writer.proofs.laying.put_entries.Given as goal

abbrev pub invariant-loop-i : goal.invariant-loop-i
invariant-loop-i l = put_words l.file (l.at + l.i) (entry_words (drop l.i l.images)) ≡ put_words l.initial.file l.at (entry_words l.images)
