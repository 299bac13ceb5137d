-- Document 02, order 5: "the first r primes ascending, r from 2 to 10", and their product.
-- Assumes nothing.
use Rattle.std.specs.Prelude.{ℕ, zero, suc, ◌*◌}
use Rattle.residue.specs.Prime.{prime_from}

-- 2, 3, 5, ..: each is the smallest prime above the one before it, up to 251, the largest that is a byte; a bundle has the first ten at most
unfoldable pub prime : ℕ → ℕ
prime zero = 2
prime (suc i) = prime_from (suc (prime i))

-- f 0 · f 1 · … · f (n − 1)
unfoldable pub product_to : (ℕ → ℕ) → ℕ → ℕ
product_to f zero = 1
product_to f (suc n) = product_to f n * f n

-- the product of the first r primes
abbrev pub product : ℕ → ℕ
product r = product_to prime r
