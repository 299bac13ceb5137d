-- `vectors::first_difference` meets its contract: what is passed agrees.
-- Assumes nothing.
use borrow.Author.Count.{below_more}
use borrow.Author.Rules.{rules}
use Rattle.vectors.proofs.first_difference.Goals as goal

pub loop-i-preserved : goal.loop-i-preserved
loop-i-preserved c = (search rules, below_more _ _ c.loop-i.invariant.1 c.if-a-i.false)
