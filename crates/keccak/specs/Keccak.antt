-- The permutation Keccak-f[1600]: FIPS 202, sections 3.3 and 3.4.
-- Assumes nothing.
use Rattle.std.specs.Prelude.{ℕ, zero, suc, List}
use Rattle.keccak.specs.RoundConstants.{round_constant}
use Rattle.keccak.specs.Steps.{theta, rho, pi, chi, iota}

-- one round, Rnd(A, i), where rc is the constant of round i
unfoldable pub round : ℕ → List ℕ → List ℕ
round rc a = iota rc (chi (pi (rho (theta a))))

-- the rounds 0 to n − 1, one after the other
unfoldable pub rounds : ℕ → List ℕ → List ℕ
rounds zero a = a
rounds (suc n) a = round (round_constant n) (rounds n a)

-- Keccak-f[1600] has 24 rounds
unfoldable pub keccak_f : List ℕ → List ℕ
keccak_f a = rounds 24 a
