-- Laws of the bytes of words: one after another, and how many they are.
-- Assumes nothing.
use mathlib.Core.Path.{◌≡◌, refl, ap}
use mathlib.Core.List.{List, [], ◌∷◌, ◌++◌}
use Prim.Native.Nat.{ℕ, ◌*◌}
use native.Mathlib.Omega.{arith}
use lib.ListN.{length}
use Rattle.words.specs.Encode.{bytes_of, file_of}

pub file_append : (xs ys : List ℕ) → file_of (xs ++ ys) ≡ file_of xs ++ file_of ys
unfolding file_of
file_append [] ys = refl
file_append (x ∷ xs) ys = ap (λ (l : List ℕ). bytes_of x ++ l) (file_append xs ys)

pub length-file : (ws : List ℕ) → length (file_of ws) ≡ 4 * length ws
unfolding file_of
length-file [] = refl
length-file (w ∷ ws) = omega (arith, length-file ws)
