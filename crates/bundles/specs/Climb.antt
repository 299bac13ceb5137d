-- How residues are joined, prime by prime: a number that has the residues so far is raised to one that has the next as well.
-- Assumes nothing.
use Rattle.std.specs.Prelude.{◌≡◌, List, ℕ, ◌*◌, ◌%◌, ◌<◌, length, get_or, Result, IfOk}
use Rattle.residue.specs.Residue.{mul}
use Rattle.checks.specs.declared.Refused.{Refused}
use Rattle.checks.specs.Answer.{answer_of}
use Rattle.bundles.specs.Primes.{prime, product}
use Rattle.bundles.specs.Integers.{join}
use Rattle.bundles.specs.Call.{join_checked}

-- times the inverse, the product of the primes before prime i is 1 modulo it
pub record Inverts (i inverse : ℕ) : Type 0 where
  pub rule : mul (prime i) (product i) inverse ≡ 1

-- a list of one for each of ten primes
pub record Inverses (xs : List ℕ) : Type 0 where
  pub size : length xs ≡ 10
  pub entry : (i : ℕ) → i < 10 → Inverts i (get_or xs i 0)

-- from x, below m, to y, below m · p, which has the residue besides
pub record Climbs (m p x residue y : ℕ) : Type 0 where
  pub below : y < m * p
  pub kept : y % m ≡ x
  pub new : y % p ≡ residue

-- a number below the product of the first i primes that has the first i residues
pub record Climbed (residues : List ℕ) (i x : ℕ) : Type 0 where
  pub below : x < product i
  pub has : (j : ℕ) → j < i → x % prime j ≡ get_or residues j 0

-- what joining promises below the C face
pub record Joins (r : ℕ) (residues : List ℕ) (found : Result ℕ Refused) : Type 0 where
  pub answer : answer_of found ≡ join_checked r residues
  pub integer : IfOk found (λ x. x ≡ join r residues)
