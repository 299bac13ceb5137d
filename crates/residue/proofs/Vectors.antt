-- Laws of key vectors: the length of a sum, a difference, a multiple and a key, the entry at each place, and that all of
-- these have entries below p. Assumes nothing.
use mathlib.Core.Path.{◌≡◌, refl, ◌∙◌, sym, ap}
use mathlib.Core.List.{List, [], ◌∷◌, zip_with}
use Prim.Native.Nat.{ℕ, zero, suc, ◌+◌, ◌*◌, ◌%◌, ◌<◌}
use native.Mathlib.Nat.{le_of_suc-le-suc, not-suc-le-zero, mod-lt, suc_inj, zero-add}
use native.Mathlib.Omega.{arith}
use lib.ListN.{length, get_or, length-map}
use Rattle.std.proofs.lemmas.List.{get_or-map}
use Rattle.residue.specs.Residue.{add, sub, mul}
use Rattle.residue.specs.Vector.{add_v, sub_v, mul_v, key_v, AllBelow}
use Rattle.residue.proofs.Reduced.{add_multiple}

pub zip_length : (f : ℕ → ℕ → ℕ) (xs ys : List ℕ) → length xs ≡ length ys → length (zip_with f xs ys) ≡ length xs
unfolding zip_with
zip_length f [] ys e = refl
zip_length f (x ∷ xs) [] e = absurd (omega arith)
zip_length f (x ∷ xs) (y ∷ ys) e = ap suc (zip_length f xs ys (suc_inj e))

pub zip_at : (f : ℕ → ℕ → ℕ) (xs ys : List ℕ) → length xs ≡ length ys → (i : ℕ) → i < length xs
    → get_or (zip_with f xs ys) i 0 ≡ f (get_or xs i 0) (get_or ys i 0)
unfolding zip_with
zip_at f [] ys e i h = absurd (not-suc-le-zero h)
zip_at f (x ∷ xs) [] e i h = absurd (omega arith)
zip_at f (x ∷ xs) (y ∷ ys) e zero h = refl
zip_at f (x ∷ xs) (y ∷ ys) e (suc i) h = zip_at f xs ys (suc_inj e) i (le_of_suc-le-suc h)

pub zip_below : (f : ℕ → ℕ → ℕ) (p : ℕ) → ((a b : ℕ) → f a b < p) → (xs ys : List ℕ) (i : ℕ) → i < length (zip_with f xs ys)
    → get_or (zip_with f xs ys) i 0 < p
unfolding zip_with
zip_below f p t [] ys i h = absurd (not-suc-le-zero h)
zip_below f p t (x ∷ xs) [] i h = absurd (not-suc-le-zero h)
zip_below f p t (x ∷ xs) (y ∷ ys) zero h = t x y
zip_below f p t (x ∷ xs) (y ∷ ys) (suc i) h = zip_below f p t xs ys i (le_of_suc-le-suc h)

pub add-below : {p : ℕ} → 0 < p → (a b : ℕ) → add p a b < p
unfolding add
add-below h a b = mod-lt _ h

pub sub-below : {p : ℕ} → 0 < p → (a b : ℕ) → sub p a b < p
unfolding sub
sub-below h a b = mod-lt _ h

pub mul-below : {p : ℕ} → 0 < p → (a b : ℕ) → mul p a b < p
unfolding mul
mul-below h a b = mod-lt _ h

pub add_v-length : (p : ℕ) (xs ys : List ℕ) → length xs ≡ length ys → length (add_v p xs ys) ≡ length xs
unfolding add_v
add_v-length p xs ys e = zip_length (add p) xs ys e

pub sub_v-length : (p : ℕ) (xs ys : List ℕ) → length xs ≡ length ys → length (sub_v p xs ys) ≡ length xs
unfolding sub_v
sub_v-length p xs ys e = zip_length (sub p) xs ys e

pub mul_v-length : (p c : ℕ) (xs : List ℕ) → length (mul_v p c xs) ≡ length xs
unfolding mul_v
mul_v-length p c xs = length-map xs (mul p c)

pub key_v-length : (p : ℕ) (k : List ℕ) (e : ℕ) (d : List ℕ) → length k ≡ length d → length (key_v p k e d) ≡ length k
unfolding key_v
key_v-length p k e d h = add_v-length p k (mul_v p e d) (omega (arith, mul_v-length p e d))

pub add_v-at : (p : ℕ) (xs ys : List ℕ) → length xs ≡ length ys → (i : ℕ) → i < length xs
    → get_or (add_v p xs ys) i 0 ≡ add p (get_or xs i 0) (get_or ys i 0)
unfolding add_v
add_v-at p xs ys e i h = zip_at (add p) xs ys e i h

pub sub_v-at : (p : ℕ) (xs ys : List ℕ) → length xs ≡ length ys → (i : ℕ) → i < length xs
    → get_or (sub_v p xs ys) i 0 ≡ sub p (get_or xs i 0) (get_or ys i 0)
unfolding sub_v
sub_v-at p xs ys e i h = zip_at (sub p) xs ys e i h

pub mul_v-at : (p c : ℕ) (xs : List ℕ) (i : ℕ) → i < length xs → get_or (mul_v p c xs) i 0 ≡ mul p c (get_or xs i 0)
unfolding mul_v
mul_v-at p c xs i h = get_or-map (mul p c) xs i 0 0 h

pub key_v-at : (p : ℕ) (k : List ℕ) (e : ℕ) (d : List ℕ) → length k ≡ length d → (i : ℕ) → i < length k
    → get_or (key_v p k e d) i 0 ≡ add p (get_or k i 0) (mul p e (get_or d i 0))
unfolding key_v
key_v-at p k e d s i h =
    add_v-at p k (mul_v p e d) (omega (arith, mul_v-length p e d)) i h ∙ ap (add p (get_or k i 0)) (mul_v-at p e d i (omega arith))

pub add_v-below : {p : ℕ} → 0 < p → (xs ys : List ℕ) → AllBelow p (add_v p xs ys)
unfolding add_v
add_v-below {p} h xs ys = record { entry = zip_below (add p) p (add-below h) xs ys }

pub sub_v-below : {p : ℕ} → 0 < p → (xs ys : List ℕ) → AllBelow p (sub_v p xs ys)
unfolding sub_v
sub_v-below {p} h xs ys = record { entry = zip_below (sub p) p (sub-below h) xs ys }

pub mul_v-below : {p : ℕ} → 0 < p → (c : ℕ) (xs : List ℕ) → AllBelow p (mul_v p c xs)
mul_v-below {p} h c xs = record { entry = λ i l. (let size = mul_v-length p c xs in rw (mul_v-at p c xs i (omega arith)) (mul-below h c _)) }

pub key_v-below : {p : ℕ} → 0 < p → (k : List ℕ) (e : ℕ) (d : List ℕ) → AllBelow p (key_v p k e d)
unfolding key_v
key_v-below {p} h k e d = add_v-below h k (mul_v p e d)

-- one reduction of a sum with a product gives a key's entry, and one of a product a multiple's
pub key-entry : (p : ℕ) (k : List ℕ) (e : ℕ) (d : List ℕ) (i : ℕ) {x r : ℕ} → length k ≡ length d → i < length k
    → r ≡ x % p → x ≡ get_or k i 0 + e * get_or d i 0 → r ≡ get_or (key_v p k e d) i 0
key-entry p k e d i s h t u =
    t ∙ ap (λ (n : ℕ). n % p) u ∙ add_multiple p (get_or k i 0) e (get_or d i 0) ∙ sym (key_v-at p k e d s i h)

pub multiple_entry : (p c : ℕ) (xs : List ℕ) (i : ℕ) {x r : ℕ} → i < length xs → r ≡ x % p → x ≡ 0 + c * get_or xs i 0
    → r ≡ get_or (mul_v p c xs) i 0
unfolding mul
multiple_entry p c xs i h t u = t ∙ ap (λ (n : ℕ). n % p) (u ∙ zero-add _) ∙ sym (mul_v-at p c xs i h)
