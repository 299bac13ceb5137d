-- `writer::laying::lay_entries` meets its contract: only in the pass that lays are words put down.
-- Assumes nothing.
use Rattle.writer.proofs.laying.lay_entries.Goals as goal

pub returns-then-lay : goal.returns-then-lay
returns-then-lay c = rw c.if-lay.true c.put_entries.ensures
