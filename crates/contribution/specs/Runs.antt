-- Runs of bytes one behind another, as a function of the code gives them.
-- Assumes nothing.
use Rattle.std.specs.Prelude.{◌≡◌, List, ℕ, ◌<◌, length}
use Rattle.std.specs.Fn.{Shared}
use Rattle.lists.specs.Blocks.{sum_to}
use Rattle.contribution.specs.declared.run.Run.{Run}

-- run i of the first count has size i bytes and modulus i, and so many bytes there are
pub record RunsAre {R : Type 0} (calls : Shared R (ℕ × Unit {0}) Run) (nth : R) (count : ℕ) (size modulus : ℕ → ℕ) (xs : List ℕ) : Type 0 where
  pub each : (i : ℕ) (run : Run) → i < count → calls.post nth (i, tt) run → (run.bytes ≡ size i) × (run.modulus ≡ modulus i)
  pub long : sum_to count size ≡ length xs
