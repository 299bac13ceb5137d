-- `writer::fields::put_outputs`: the first i records are those of the first i outputs.
-- Assumes nothing.
use Rattle.std.proofs.Common.{◌≡◌, ℕ, ◌<◌, get_or}
use Rattle.writer.specs.Listed.{output_record}
use Rattle.writer.proofs.fields.put_outputs.Given as goal

abbrev pub invariant-loop-i : goal.invariant-loop-i
invariant-loop-i l = (k : ℕ) → k < l.i → get_or l.records k (output_record 0 0) ≡ output_record (get_or l.outputs k 0) (get_or l.named k 0)
