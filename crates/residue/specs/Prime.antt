-- Prime numbers: the test that computes, what it means, and how many primes lie below a number.
-- Assumes nothing.
use Rattle.std.specs.Prelude.{◌≡◌, Bool, true, cond, ◌&&◌, ◌||◌, List, ℕ, zero, suc, ◌-◌, ◌%◌, ◌≤◌, ◌<◌, leb, ltb, length, get_or, Option, None, Some}

-- remainders_below p n: p divided by d leaves a remainder, for each d from 2 below n
unfoldable pub remainders_below : ℕ → ℕ → Bool
remainders_below p zero = true
remainders_below p (suc d) = remainders_below p d && (ltb d 2 || ltb 0 (p % d))

-- p is at least 2 and no number from 2 below p divides it
unfoldable pub is_prime : ℕ → Bool
is_prime p = leb 2 p && remainders_below p p

-- the same as a statement
pub record Prime (p : ℕ) : Type 0 where
  pub two : 2 ≤ p
  pub remainder : (d : ℕ) → 2 ≤ d → d < p → 0 < p % d

-- how many primes are below a number
unfoldable pub primes_below : ℕ → ℕ
primes_below zero = zero
primes_below (suc n) = cond (is_prime n) (suc (primes_below n)) (primes_below n)

-- the smallest prime of x, x + 1, .., so many numbers tried; where none of them is prime, 0
unfoldable pub prime_within : ℕ → ℕ → ℕ
prime_within x zero = 0
prime_within x (suc left) = cond (is_prime x) x (prime_within (suc x) left)

-- the smallest prime at least x that is a byte; where there is none, 0
unfoldable pub prime_from : ℕ → ℕ
prime_from x = prime_within x (256 - x)

-- the same as an answer: none where it is 0, which is no prime
abbrev pub found : ℕ → Option ℕ
found zero = None
found (suc p) = Some (suc p)

-- r is the prime that has i primes below it, so the i-th from 0: 2 for 0, 3 for 1, 5 for 2, ..
pub record PrimeAt (i r : ℕ) : Type 0 where
  pub prime : is_prime r ≡ true
  pub place : primes_below r ≡ i

-- a list of the 54 primes from 2 to 251, ascending
pub record Primes (xs : List ℕ) : Type 0 where
  pub size : length xs ≡ 54
  pub entry : (i : ℕ) → i < 54 → PrimeAt i (get_or xs i 0)
