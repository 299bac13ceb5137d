-- Once a vector is the vector, within a sum.
-- Assumes nothing.
use mathlib.Core.Path.{◌≡◌, refl, ap₂}
use mathlib.Core.List.{List, [], ◌∷◌, zip_with}
use Prim.Native.Nat.{ℕ}
use native.Mathlib.Nat.{one-mul, add-mod-mod}
use Rattle.residue.specs.Residue.{add, mul}
use Rattle.residue.specs.Vector.{add_v, mul_v, key_v}

once : (p x y : ℕ) → add p x (mul p 1 y) ≡ add p x y
unfolding add mul
once p x y = rw (one-mul y, add-mod-mod x y p)

pub add_once : (p : ℕ) (xs ys : List ℕ) → add_v p xs (mul_v p 1 ys) ≡ add_v p xs ys
unfolding add_v mul_v zip_with
add_once p [] ys = refl
add_once p (x ∷ xs) [] = refl
add_once p (x ∷ xs) (y ∷ ys) = ap₂ (λ (z : ℕ) (zs : List ℕ). z ∷ zs) (once p x y) (add_once p xs ys)

pub key_once : (p : ℕ) (xs ys : List ℕ) → key_v p xs 1 ys ≡ add_v p xs ys
unfolding key_v
key_once p xs ys = add_once p xs ys
