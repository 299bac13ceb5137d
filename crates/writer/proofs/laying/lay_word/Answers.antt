-- `writer::laying::lay_word` meets its contract: only in the pass that lays is a word put down.
-- Assumes nothing.
use Rattle.writer.proofs.laying.lay_word.Goals as goal

pub returns-then-lay : goal.returns-then-lay
returns-then-lay c = rw c.if-lay.true c.put_word.ensures
