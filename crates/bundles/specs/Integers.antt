-- Document 02, order 5: "It splits an integer below the primes' product into residues, joins residues back".
-- Assumes nothing.
use Rattle.std.specs.Prelude.{◌≡◌, Bool, true, ◌&&◌, List, ℕ, zero, suc, ◌%◌, ◌≤◌, ◌<◌, eqb, ltb, length, get_or}
use Rattle.lists.specs.Blocks.{tab}
use Rattle.lists.specs.First.{first}
use Rattle.bundles.specs.Primes.{prime, product}

-- an integer's residues, one for each prime
unfoldable pub split : ℕ → ℕ → List ℕ
split r x = tab r (λ i. x % prime i)

-- an integer has these residues
unfoldable pub agrees : ℕ → List ℕ → ℕ → Bool
agrees zero residues x = true
agrees (suc r) residues x = agrees r residues x && eqb (x % prime r) (get_or residues r 0)

-- the integer below the product that has them; where none has, the product itself, which residues below their primes shut out
unfoldable pub join : ℕ → List ℕ → ℕ
join r residues = first (product r) (agrees r residues)

-- each residue is below its prime
unfoldable pub all_below : ℕ → List ℕ → Bool
all_below zero residues = true
all_below (suc r) residues = all_below r residues && ltb (get_or residues r 0) (prime r)

-- splitting and joining undo each other, up to ten primes
abbrev pub SplitIsJoined : Type 0
SplitIsJoined = (r x : ℕ) → r ≤ 10 → x < product r → join r (split r x) ≡ x

abbrev pub JoinedIsSplit : Type 0
JoinedIsSplit = (r : ℕ) (residues : List ℕ) → r ≤ 10 → length residues ≡ r → all_below r residues ≡ true → split r (join r residues) ≡ residues

-- an integer of any size comes back modulo the product
abbrev pub SplitIsReduced : Type 0
SplitIsReduced = (r : ℕ) → r ≤ 10 → (x : ℕ) → join r (split r x) ≡ x % product r
