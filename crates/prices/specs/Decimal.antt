-- A number's decimal digits as text, the most significant first.
-- Assumes nothing.
use Rattle.std.specs.Prelude.{cond, List, [], ◌∷◌, ◌++◌, ℕ, zero, suc, ◌+◌, ◌/◌, ◌%◌, ltb}
use Rattle.prices.specs.Characters.{digit_zero}

-- at most so many digits
unfoldable pub digits : ℕ → ℕ → List ℕ
digits zero n = []
digits (suc places) n = cond (ltb n 10) ((digit_zero + n) ∷ []) (digits places (n / 10) ++ ((digit_zero + n % 10) ∷ []))

-- the digits of a number below 2^64, which has at most 20
unfoldable pub decimal : ℕ → List ℕ
decimal n = digits 20 n
