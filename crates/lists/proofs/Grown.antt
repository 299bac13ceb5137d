-- Laws of a list that grows at its end: its length, its front, and an element read back.
-- Assumes nothing.
use mathlib.Core.Path.{◌≡◌, refl, ap, sym, ◌∙◌}
use mathlib.Core.List.{List, [], ◌∷◌, ◌++◌}
use Prim.Native.Nat.{ℕ, zero, suc, ◌<◌}
use native.Mathlib.Nat.{not-suc-le-zero}
use native.Mathlib.Decide.{dec_lt}
use native.Mathlib.Omega.{arith}
use lib.ListN.{length, get_or, length-append, get_or-append}
use lib.Seq.{get_or_at}
use Rattle.lists.specs.Grown.{extended, grown}

module _ {A : Type 0} (make : ℕ → List A → A) where
  pub length-grown : (n : ℕ) → length (grown make n) ≡ n
  unfolding grown extended
  length-grown zero = refl
  length-grown (suc n) = simp length-append (omega (arith, length-grown n))

  snoc_at : (xs : List A) (a : A) (n i : ℕ) (d : A) → length xs ≡ n → i < suc n → (i < n → get_or xs i d ≡ make i (grown make i)) → (i ≡ n → a ≡ make i (grown make i)) → get_or (xs ++ (a ∷ [])) i d ≡ make i (grown make i)
  snoc_at xs a n i d size h before last = by (dec_lt i n)
    where
      by : Dec (i < n) → get_or (xs ++ (a ∷ [])) i d ≡ make i (grown make i)
      by (yes l) = get_or-append xs (a ∷ []) d i (rw size l) ∙ before l
      by (no g) = get_or_at xs a [] d i (size ∙ sym here) ∙ last here
        where
          here : i ≡ n
          here = omega arith

  pub get_or-grown : (n i : ℕ) (d : A) → i < n → get_or (grown make n) i d ≡ make i (grown make i)
  unfolding grown extended
  get_or-grown zero i d h = absurd (not-suc-le-zero h)
  get_or-grown (suc n) i d h =
      snoc_at (grown make n) (make n (grown make n)) n i d (length-grown n) h (get_or-grown n i d) (λ e. ap (λ m. make m (grown make m)) (sym e))

  -- what is read below i does not depend on how far the list has grown
  pub get_or_grown_below : (n m i : ℕ) (d : A) → i < n → i < m → get_or (grown make n) i d ≡ get_or (grown make m) i d
  get_or_grown_below n m i d h l = get_or-grown n i d h ∙ sym (get_or-grown m i d l)
