-- Parties and key length in range, as check 11 leaves them, and the length of all parties' keys on one wire.
-- Assumes nothing.
use Rattle.std.specs.Prelude.{◌≡◌, List, ℕ, ◌*◌, ◌≤◌, length}

-- n parties, key length K
pub record Sizes (n K : ℕ) : Type 0 where
  pub some : 1 ≤ n
  pub parties : n ≤ 8
  pub long : 1 ≤ K
  pub short : K ≤ 128

-- a vector has n·K bytes
pub record Vector (n K : ℕ) (xs : List ℕ) : Type 0 where
  pub size : length xs ≡ n * K
