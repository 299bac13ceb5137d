-- `writer::settling::settle` meets its contract: what was refused stays so.
-- Assumes nothing.
use Rattle.checks.proofs.Answers.{passed_on}
use Rattle.writer.proofs.Settles.{settles_off, settles_on}
use Rattle.writer.proofs.settling.settle.Goals as goal

pub returns-in_err-judged : goal.returns-in_err-judged
returns-in_err-judged c = let a = c.args in record { settles = settles_off a.judged a.tables a.file c.in_err-judged.was (passed_on c.from_residual.ensures.1) }

pub returns : goal.returns
returns c = let a = c.args in record { settles = settles_on a.judged a.tables a.file c.in_ok-judged.was c.settled_at.ensures }
