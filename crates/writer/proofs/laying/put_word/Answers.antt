-- `writer::laying::put_word` meets its contract: the part that was lent, said of the whole.
-- Assumes nothing.
use mathlib.Core.Path.{◌∙◌}
use Prim.Native.Nat.{◌+◌, ◌*◌}
use native.Mathlib.Omega.{arith}
use borrow.Author.Rules.{rules}
use Rattle.lists.proofs.Written.{written-lent}
use Rattle.writer.proofs.Puts.{bytes_are, put_fits, put_not}
use Rattle.writer.proofs.laying.put_word.Goals as goal

pub returns-then-to-file : goal.returns-then-to-file
returns-then-to-file c = let a = c.args in
    put_fits a.file.now a.at a.w c.if-to-file.true
    (written-lent a.file.now (4 * a.at) (4 * a.at + 4) (search rules) c.if-to-file.true c.copy_from_slice.ensures.len
    (c.copy_from_slice.ensures.after ∙ c.to_le_bytes.ensures ∙ bytes_are a.w (omega arith)))

pub returns-else-to-file : goal.returns-else-to-file
returns-else-to-file c = let a = c.args in put_not a.file.now a.at a.w c.if-to-file.false
