-- `bundles::gates::Part::lay`: gate by gate, behind the words so far. Assumes nothing.
use Rattle.std.proofs.Common.{◌≡◌, true, length}
use Rattle.writer.proofs.HoldingFiles.{Kept}
use Rattle.bundles.specs.Part.{part_words}
use Rattle.bundles.proofs.gates.Part.lay.Given as goal

abbrev pub invariant-loop-i : goal.invariant-loop-i
invariant-loop-i l = (l.at ≡ length (part_words l.fn.self.operation l.i l.fn.self.a)) × Kept true l.initial.file l.file (part_words l.fn.self.operation l.i l.fn.self.a)
