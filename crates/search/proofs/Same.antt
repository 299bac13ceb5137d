-- Laws of `same`: it is true of equal lists alone; and the invariant of a loop that compares two lists from the front.
-- Assumes nothing.
use mathlib.Core.Path.{◌≡◌, refl, ap, ap₂}
use mathlib.Core.Bool.{Bool, true, false, ◌&&◌}
use mathlib.Core.List.{List, [], ◌∷◌}
use Prim.Native.Nat.{ℕ, ◌+◌, ◌≤◌, ◌<◌}
use native.Mathlib.Omega.{arith}
use lib.Dec.{eqb}
use lib.ListN.{length, get_or}
use lib.Pointwise.{pointwise}
use lib.Seq.{ext_get_or}
use borrow.Author.Count.{below_none, below_more}
use borrow.Author.Tests.{eqb-true, eq-eqb}
use Rattle.residue.proofs.Table.{and_left, and_right}
use Rattle.search.specs.Search.{same}

pub same_refl : (xs : List ℕ) → same xs xs ≡ true
unfolding same
same_refl [] = refl
same_refl (x ∷ xs) = ap₂ ◌&&◌ (eq-eqb x x refl) (same_refl xs)

pub same_equal : (xs ys : List ℕ) → xs ≡ ys → same xs ys ≡ true
same_equal xs ys e = rw (← e) (same_refl xs)

pub same_true : (xs ys : List ℕ) → same xs ys ≡ true → xs ≡ ys
unfolding same
same_true [] [] e = refl
same_true [] (y ∷ ys) e = cc
same_true (x ∷ xs) [] e = cc
same_true (x ∷ xs) (y ∷ ys) e =
    ap₂ (λ (a : ℕ) (l : List ℕ). a ∷ l) (eqb-true x y (and_left (eqb x y) (same xs ys) e)) (same_true xs ys (and_right (eqb x y) (same xs ys) e))

decided : (xs ys : List ℕ) → (xs ≡ ys → ⊥) → (b : Bool) → same xs ys ≡ b → b ≡ false
decided xs ys h false e = refl
decided xs ys h true e = absurd (h (same_true xs ys e))

pub same_false : (xs ys : List ℕ) → (xs ≡ ys → ⊥) → same xs ys ≡ false
same_false xs ys h = decided xs ys h (same xs ys) refl

-- lists that differ at one place
pub same_differs : (xs ys : List ℕ) (i : ℕ) → (get_or xs i 0 ≡ get_or ys i 0 → ⊥) → same xs ys ≡ false
same_differs xs ys i h = same_false xs ys (λ e. h (ap (λ (l : List ℕ). get_or l i 0) e))

-- the library's comparison of two slices
pub same_pointwise : (xs ys : List ℕ) → pointwise eqb xs ys ≡ same xs ys
unfolding same
same_pointwise [] [] = refl
same_pointwise [] (y ∷ ys) = refl
same_pointwise (x ∷ xs) [] = refl
same_pointwise (x ∷ xs) (y ∷ ys) = ap (λ (b : Bool). eqb x y && b) (same_pointwise xs ys)

-- the first i elements of two lists are the same
pub record Agree (xs ys : List ℕ) (i : ℕ) : Type 0 where
  pub within : i ≤ length xs
  pub past : (k : ℕ) → k < i → get_or xs k 0 ≡ get_or ys k 0

pub agree_none : (xs ys : List ℕ) → Agree xs ys 0
agree_none xs ys = record { within = omega arith; past = below_none (λ (k : ℕ). get_or xs k 0 ≡ get_or ys k 0) }

pub agree_more : {xs ys : List ℕ} {i : ℕ} → Agree xs ys i → i < length xs → get_or xs i 0 ≡ get_or ys i 0 → Agree xs ys (i + 1)
agree_more {xs} {ys} {i} r h e = record { within = omega arith; past = below_more (λ (k : ℕ). get_or xs k 0 ≡ get_or ys k 0) i r.past e }

pub agree_all : {xs ys : List ℕ} {i : ℕ} → Agree xs ys i → length xs ≡ length ys → length xs ≤ i → same xs ys ≡ true
agree_all {xs} {ys} {i} r s h = same_equal xs ys (ext_get_or 0 xs ys s (λ k l. r.past k (omega arith)))
