-- Sums, differences, multiples and keys go part by part: of a front, of what is left after it, and of two vectors in a row. So do
-- their bounds. Assumes nothing.
use mathlib.Core.Path.{◌≡◌, refl, ◌∙◌, ap}
use mathlib.Core.List.{List, [], ◌∷◌, ◌++◌, zip_with}
use Prim.Native.Nat.{ℕ, zero, suc, ◌+◌}
use native.Mathlib.Nat.{suc_inj}
use native.Mathlib.Omega.{arith}
use lib.ListN.{length, take, drop, length-take, length-drop}
use lib.Seq.{get_or-take, get_or-drop}
use Rattle.std.proofs.lemmas.List.{take-map, drop-map}
use Rattle.residue.specs.Residue.{add, mul}
use Rattle.residue.specs.Vector.{add_v, mul_v, key_v, AllBelow}

zip_nil : (f : ℕ → ℕ → ℕ) (xs : List ℕ) → zip_with f xs [] ≡ []
unfolding zip_with
zip_nil f [] = refl
zip_nil f (x ∷ xs) = refl

zip_take : (f : ℕ → ℕ → ℕ) (n : ℕ) (xs ys : List ℕ) → take n (zip_with f xs ys) ≡ zip_with f (take n xs) (take n ys)
unfolding zip_with
zip_take f zero xs ys = refl
zip_take f (suc n) [] ys = refl
zip_take f (suc n) (x ∷ xs) [] = refl
zip_take f (suc n) (x ∷ xs) (y ∷ ys) = ap (λ (l : List ℕ). f x y ∷ l) (zip_take f n xs ys)

zip_drop : (f : ℕ → ℕ → ℕ) (n : ℕ) (xs ys : List ℕ) → drop n (zip_with f xs ys) ≡ zip_with f (drop n xs) (drop n ys)
unfolding zip_with
zip_drop f zero xs ys = refl
zip_drop f (suc n) [] ys = refl
zip_drop f (suc n) (x ∷ xs) [] = rw (zip_nil f (drop n xs))
zip_drop f (suc n) (x ∷ xs) (y ∷ ys) = zip_drop f n xs ys

pub zip_append : (f : ℕ → ℕ → ℕ) (xs ys xs' ys' : List ℕ) → length xs ≡ length ys → zip_with f (xs ++ xs') (ys ++ ys') ≡ zip_with f xs ys ++ zip_with f xs' ys'
unfolding zip_with
zip_append f [] [] xs' ys' e = refl
zip_append f [] (y ∷ ys) xs' ys' e = absurd (omega arith)
zip_append f (x ∷ xs) [] xs' ys' e = absurd (omega arith)
zip_append f (x ∷ xs) (y ∷ ys) xs' ys' e = ap (λ (l : List ℕ). f x y ∷ l) (zip_append f xs ys xs' ys' (suc_inj e))

module _ (p : ℕ) where
  pub add_v-take : (n : ℕ) (xs ys : List ℕ) → take n (add_v p xs ys) ≡ add_v p (take n xs) (take n ys)
  unfolding add_v
  add_v-take n xs ys = zip_take (add p) n xs ys

  pub add_v-drop : (n : ℕ) (xs ys : List ℕ) → drop n (add_v p xs ys) ≡ add_v p (drop n xs) (drop n ys)
  unfolding add_v
  add_v-drop n xs ys = zip_drop (add p) n xs ys

  pub mul_v-take : (n c : ℕ) (xs : List ℕ) → take n (mul_v p c xs) ≡ mul_v p c (take n xs)
  unfolding mul_v
  mul_v-take n c xs = take-map (mul p c) n xs

  pub mul_v-drop : (n c : ℕ) (xs : List ℕ) → drop n (mul_v p c xs) ≡ mul_v p c (drop n xs)
  unfolding mul_v
  mul_v-drop n c xs = drop-map (mul p c) n xs

  pub key_v-take : (n : ℕ) (k : List ℕ) (e : ℕ) (d : List ℕ) → take n (key_v p k e d) ≡ key_v p (take n k) e (take n d)
  unfolding key_v
  key_v-take n k e d = add_v-take n k (mul_v p e d) ∙ ap (add_v p (take n k)) (mul_v-take n e d)

  pub key_v-drop : (n : ℕ) (k : List ℕ) (e : ℕ) (d : List ℕ) → drop n (key_v p k e d) ≡ key_v p (drop n k) e (drop n d)
  unfolding key_v
  key_v-drop n k e d = add_v-drop n k (mul_v p e d) ∙ ap (add_v p (drop n k)) (mul_v-drop n e d)

  pub below-take : (n : ℕ) {xs : List ℕ} → AllBelow p xs → AllBelow p (take n xs)
  below-take n {xs} h = record {
    entry = λ i l. (let size = length-take n xs in rw (get_or-take n xs i 0 (omega arith)) (h.entry i (omega arith)));
  }

  pub below-drop : (n : ℕ) {xs : List ℕ} → AllBelow p xs → AllBelow p (drop n xs)
  below-drop n {xs} h = record {
    entry = λ i l. (let size = length-drop n xs in rw (get_or-drop n xs i 0) (h.entry (n + i) (omega arith)));
  }
