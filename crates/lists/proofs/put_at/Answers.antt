-- `lists::put_at` meets its contract: the part that was lent for the copy, said of the whole.
-- Assumes nothing.
use borrow.Author.Rules.{rules}
use Prim.Native.Nat.{◌+◌}
use lib.ListN.{length}
use Rattle.lists.proofs.Written.{written-lent}
use Rattle.lists.proofs.put_at.Goals as goal

pub returns : goal.returns
returns c = let a = c.args in
    written-lent a.out.now a.at (a.at + length a.from.now) (search rules) (search rules) c.copy_from_slice.ensures.len c.copy_from_slice.ensures.after
