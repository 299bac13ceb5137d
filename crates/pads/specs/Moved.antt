-- Pads put on or taken off, and what the functions ask.
-- Assumes nothing.
use Rattle.std.specs.Prelude.{◌≡◌, Bool, true, false, ℕ, ◌*◌, ◌%◌, ◌≤◌, ◌<◌, length}
use mathlib.Core.List.{List, map, zip_with}
use Rattle.residue.specs.Residue.{add, sub}
use Rattle.residue.specs.Vector.{AllBelow}

-- each number modulo q
unfoldable pub reduced : ℕ → List ℕ → List ℕ
reduced q xs = map (λ x. x % q) xs

-- b put on a, or taken off it, modulo q
unfoldable pub shifted : Bool → ℕ → ℕ → ℕ → ℕ
shifted false q a b = add q a b
shifted true q a b = sub q a b

-- the same of vectors
unfoldable pub moved : Bool → ℕ → List ℕ → List ℕ → List ℕ
moved minus q xs ys = zip_with (shifted minus q) xs ys

-- what is asked of the receiving modulus q, the key length K and the buffer that pads are put on or taken off
pub record Asked (q K : ℕ) (out : List ℕ) : Type 0 where
  pub modulus : 1 < q
  pub short : K ≤ 128
  pub below : AllBelow q out

-- what is asked of a row's sizes: n keys and n entries of K bytes; a receiver's number is a byte
pub record Row (n K : ℕ) (keys out : List ℕ) : Type 0 where
  pub parties : n ≤ 256
  pub senders : length keys ≡ n * K
  pub receivers : length out ≡ n * K
