-- Bytes against their moduli: the lowest index of one that is too large.
-- Assumes nothing.
use Rattle.std.specs.Prelude.{List, ℕ, ◌≤◌, ◌<◌, length, get_or}
use Rattle.lists.specs.First.{first}
use Rattle.session.specs.Session.{too_large}

-- the lowest index of an entry that is not below its modulus; the number of entries where there is none
abbrev pub first_large : List ℕ → (ℕ → ℕ) → ℕ
first_large xs modulus = first (length xs) (too_large xs modulus)

-- no entry is larger than a bound
pub record Bounded (bound : ℕ) (xs : List ℕ) : Type 0 where
  pub entry : (i : ℕ) → i < length xs → get_or xs i 0 ≤ bound
