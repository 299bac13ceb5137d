-- `bundles::gates::word_count`: gate by gate. Assumes nothing.
use Rattle.std.proofs.Common.{◌*◌, ◌≤◌}
use Rattle.bundles.specs.Laying.{Counts}
use Rattle.bundles.proofs.gates.word_count.Given as goal

abbrev pub invariant-loop-i : goal.invariant-loop-i
invariant-loop-i l = Counts l.operation l.i l.words × (l.words ≤ 30 * l.i)
