-- A table of the code: an array whose first entries are known.
-- Assumes nothing.
use Rattle.std.specs.Prelude.{◌≡◌, List, ℕ, ◌<◌, length, get_or}

-- an array of so many numbers, with f 0, f 1, … f (n − 1) at its front
pub record Front (size n : ℕ) (f : ℕ → ℕ) (xs : List ℕ) : Type 0 where
  pub long : length xs ≡ size
  pub entry : (i : ℕ) → i < n → get_or xs i 0 ≡ f i
