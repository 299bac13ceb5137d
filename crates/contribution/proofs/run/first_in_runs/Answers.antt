-- `contribution::first_in_runs` meets its contract: a loop over runs, each searched apart. Assumes nothing.
use native.Mathlib.Omega.{arith}
use Rattle.contribution.proofs.Runs.{searched_start, searched-fits, searched-done, run_on, run_found}
use Rattle.contribution.proofs.run.first_in_runs.Goals as goal

pub loop-i-init : goal.loop-i-init
loop-i-init g c = λ size modulus are. searched_start are.long

pub piece-requires : goal.piece-requires
piece-requires g c = let (size, modulus, are) = c.requires.runs_are in omega (arith, searched-fits (c.loop-i.invariant size modulus are) c.loop-i-test.true, (are.each c.loop-i.i c.nth-run.result c.loop-i-test.true c.nth-run.ensures).0)

pub overflow_add-result : goal.overflow_add-result
overflow_add-result g c = let (size, modulus, are) = c.requires.runs_are in omega (arith, searched-fits (c.loop-i.invariant size modulus are) c.loop-i-test.true, (are.each c.loop-i.i c.nth-run.result c.loop-i-test.true c.nth-run.ensures).0)

pub overflow_add-at : goal.overflow_add-at
overflow_add-at g c = let (size, modulus, are) = c.requires.runs_are in omega (arith, searched-fits (c.loop-i.invariant size modulus are) c.loop-i-test.true, (are.each c.loop-i.i c.nth-run.result c.loop-i-test.true c.nth-run.ensures).0)

pub returns-then-found-run : goal.returns-then-found-run
returns-then-found-run g c = λ size modulus are. run_found modulus (c.loop-i.invariant size modulus are) c.loop-i-test.true (are.each c.loop-i.i c.nth-run.result c.loop-i-test.true c.nth-run.ensures).1 (are.each c.loop-i.i c.nth-run.result c.loop-i-test.true c.nth-run.ensures).0 c.piece.ensures.0 c.first_at_least-found.ensures c.if-found-run.true

pub loop-i-preserved : goal.loop-i-preserved
loop-i-preserved g c = λ size modulus are. run_on modulus (c.loop-i.invariant size modulus are) c.loop-i-test.true (are.each c.loop-i.i c.nth-run.result c.loop-i-test.true c.nth-run.ensures).1 (are.each c.loop-i.i c.nth-run.result c.loop-i-test.true c.nth-run.ensures).0 c.piece.ensures.0 c.first_at_least-found.ensures c.if-found-run.false

pub returns : goal.returns
returns g c = λ size modulus are. searched-done (c.loop-i.invariant size modulus are) c.loop-i-test.false
