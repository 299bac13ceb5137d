-- `writer::walk::over` meets its contract: `begin` starts the walk, and each `step` is one record more (`Walks.antt`).
-- Assumes nothing.
use Rattle.std.proofs.Common.{◌≡◌, length, arith}
use Rattle.writer.proofs.Walks.{start, ready, more}
use Rattle.writer.proofs.walk.over.Goals as goal

pub loop-entry-init : goal.loop-entry-init
loop-entry-init c = start c.requires c.begin-pen.ensures

pub step-requires : goal.step-requires
step-requires c = ready c.loop-entry.invariant

pub loop-entry-preserved : goal.loop-entry-preserved
loop-entry-preserved c = more c.loop-entry-test.true c.loop-entry.invariant c.step.ensures

pub returns : goal.returns
returns c = let all : c.loop-entry.entry-index ≡ length c.args.records.now = omega arith in rw (← all) c.loop-entry.invariant
