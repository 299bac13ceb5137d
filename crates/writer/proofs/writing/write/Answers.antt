-- `writer::writing::write` meets its contract: the records are judged and settled, laid and ended (`Closings.antt`).
-- Assumes nothing.
use mathlib.Core.Path.{refl, sym, subst}
use Prim.Native.Nat.{ℕ}
use lib.ListN.{length}
use Rattle.std.specs.Prelude.{Result}
use Rattle.checks.specs.declared.Refused.{Refused}
use Rattle.checks.proofs.Answers.{passed_on}
use Rattle.writer.specs.Settling.{Settles}
use Rattle.writer.specs.Closing.{Writes, Finished}
use Rattle.writer.proofs.Closings.{fair, written}
use Rattle.writer.proofs.writing.write.Goals as goal

pub settle-requires : goal.settle-requires
settle-requires c = fair c.over-judged.ensures

pub lay_end-requires : goal.lay_end-requires
lay_end-requires c = (fair c.over-laid.ensures).at

pub returns-in_err-words : goal.returns-in_err-words
returns-in_err-words c =
    subst (λ (r : Result ℕ Refused). Writes c.args.records.now c.args.tables.now c.args.file.now r c.over-judged.new.file) (sym (passed_on c.from_residual.ensures.1))
    (written c.over-judged.ensures (subst (Settles c.over-judged.result (length c.args.tables.now) (length c.args.file.now)) c.in_err-words.was (rw c.over-judged.auto.file at c.settle.ensures)) (Finished.kept refl))

pub returns : goal.returns
returns c =
    written c.over-judged.ensures (subst (Settles c.over-judged.result (length c.args.tables.now) (length c.args.file.now)) c.in_ok-words.was (rw c.over-judged.auto.file at c.settle.ensures))
    (Finished.laid c.over-laid.ensures c.lay_end.ensures)
