-- `contribution::first_in_runs` meets its contract: a loop over runs, each searched apart. Assumes nothing.
use Prim.Native.Nat.{ℕ}
use Rattle.lists.specs.Blocks.{runs}
use Rattle.contribution.specs.Runs.{RunsAre}
use Rattle.contribution.proofs.Runs.{Searched}
use Rattle.contribution.proofs.run.first_in_runs.Given as goal

abbrev pub invariant-loop-i : goal.invariant-loop-i
invariant-loop-i g l = (size modulus : ℕ → ℕ) → RunsAre g.R.Fn l.fn.nth l.count size modulus l.bytes → Searched l.bytes (runs l.count size modulus) l.count size l.i l.at
