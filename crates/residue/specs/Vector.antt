-- Key vectors: lists of residues modulo p, with sums, differences and multiples taken component by component.
-- Assumes nothing.
use Rattle.std.specs.Prelude.{◌≡◌, ℕ, ◌<◌, length, get_or}
use mathlib.Core.List.{List, map, zip_with}
use Rattle.residue.specs.Residue.{add, sub, mul}

unfoldable pub add_v : ℕ → List ℕ → List ℕ → List ℕ
add_v p xs ys = zip_with (add p) xs ys

unfoldable pub sub_v : ℕ → List ℕ → List ℕ → List ℕ
sub_v p xs ys = zip_with (sub p) xs ys

unfoldable pub mul_v : ℕ → ℕ → List ℕ → List ℕ
mul_v p c xs = map (mul p c) xs

-- the key of external value e: zero key plus e times the offset
unfoldable pub key_v : ℕ → List ℕ → ℕ → List ℕ → List ℕ
key_v p zero_key e offset = add_v p zero_key (mul_v p e offset)

-- each entry is below p
pub record AllBelow (p : ℕ) (xs : List ℕ) : Type 0 where
  pub entry : (i : ℕ) → i < length xs → get_or xs i 0 < p

-- some entry is not 0
pub record NotZero (xs : List ℕ) : Type 0 where
  pub place : ℕ
  pub inside : place < length xs
  pub entry : 0 < get_or xs place 0

-- what a multiple asks of two vectors: a modulus above 0, and one length
pub record Aligned (p : ℕ) (xs ys : List ℕ) : Type 0 where
  pub positive : 0 < p
  pub size : length xs ≡ length ys
