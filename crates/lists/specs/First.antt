-- The lowest number of which a test holds.
-- Assumes nothing.
use Rattle.std.specs.Prelude.{Bool, cond, ℕ, zero, suc}

-- from a number on, so many of them tried; where the test holds of none, the number after them
unfoldable pub first_from : ℕ → ℕ → (ℕ → Bool) → ℕ
first_from from zero test = from
first_from from (suc left) test = cond (test from) from (first_from (suc from) left test)

-- the lowest number below n of which the test holds, n where there is none
unfoldable pub first : ℕ → (ℕ → Bool) → ℕ
first n test = first_from 0 n test
