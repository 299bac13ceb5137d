-- `writer::walk::over`: after so many records the pen, the moduli and the file are as `Walked` has them.
use Rattle.writer.specs.Walked.{Walked}
use Rattle.writer.proofs.walk.over.Given as goal

abbrev pub invariant-loop-entry : goal.invariant-loop-entry
invariant-loop-entry l = Walked l.lay l.tables l.fn.file l.records l.entry-index l.pen l.moduli l.file
