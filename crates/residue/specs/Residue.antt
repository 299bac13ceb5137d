-- Sums, differences and products modulo p. Each gives a residue, so a number below p, for any two numbers and p above 0.
-- Assumes nothing.
use Rattle.std.specs.Prelude.{ℕ, ◌+◌, ◌-◌, ◌*◌, ◌%◌}

unfoldable pub add : ℕ → ℕ → ℕ → ℕ
add p a b = (a + b) % p

unfoldable pub sub : ℕ → ℕ → ℕ → ℕ
sub p a b = (a + (p - b % p)) % p

unfoldable pub mul : ℕ → ℕ → ℕ → ℕ
mul p a b = a * b % p
