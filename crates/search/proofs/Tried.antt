-- The search for a multiplier: the invariant of its loop, with its laws.
-- Assumes nothing.
use mathlib.Core.Path.{◌≡◌, sym, ◌∙◌}
use mathlib.Core.Bool.{false}
use mathlib.Core.List.{List}
use Prim.Native.Nat.{ℕ, ◌+◌, ◌≤◌, ◌<◌}
use native.Mathlib.Omega.{arith}
use lib.ListN.{length, get_or}
use borrow.Author.Count.{below_none, below_more}
use Rattle.lists.proofs.First.{first-at, first_none}
use Rattle.residue.specs.Residue.{add, mul}
use Rattle.residue.specs.Vector.{key_v}
use Rattle.residue.proofs.Vectors.{key_v-length, key_v-at}
use Rattle.search.specs.Search.{same, multiplier}
use Rattle.search.proofs.Same.{Agree, agree_more, agree_all, same_differs}

-- no multiplier below α fits
pub record Tried (p : ℕ) (k D key : List ℕ) (α : ℕ) : Type 0 where
  pub within : α ≤ p
  pub fails : (j : ℕ) → j < α → same key (key_v p k j D) ≡ false

module _ (p : ℕ) (k D key : List ℕ) where
  pub tried_none : Tried p k D key 0
  tried_none = record { within = omega arith; fails = below_none (λ (j : ℕ). same key (key_v p k j D) ≡ false) }

  -- none is left
  pub tried_all : {α : ℕ} → Tried p k D key α → α ≡ p → multiplier p k D key ≡ p
  unfolding multiplier
  tried_all r e = first_none p (λ α. same key (key_v p k α D)) (λ j l. r.fails j (omega arith))

module _ {p : ℕ} {k D key : List ℕ} {α : ℕ} (r : Tried p k D key α) (h : α < p) (zeros : length k ≡ length key) (offsets : length D ≡ length key) where
  -- a component of the key that α gives
  at : (i : ℕ) → i < length key → {x : ℕ} → x ≡ add p (get_or k i 0) (mul p α (get_or D i 0)) → x ≡ get_or (key_v p k α D) i 0
  at i l e = e ∙ sym (key_v-at p k α D (omega arith) i (omega arith))

  -- one that agrees
  pub component-agrees : {i x : ℕ} → Agree key (key_v p k α D) i → i < length key → x ≡ add p (get_or k i 0) (mul p α (get_or D i 0)) → x ≡ get_or key i 0
      → Agree key (key_v p k α D) (i + 1)
  component-agrees {i} a l e f = agree_more a l (sym f ∙ at i l e)

  -- one that doesn't, and so α does not fit
  pub tried_more : {i x : ℕ} → i < length key → x ≡ add p (get_or k i 0) (mul p α (get_or D i 0)) → (x ≡ get_or key i 0 → ⊥) → Tried p k D key (α + 1)
  tried_more {i} l e f =
      record {
        within = omega arith;
        fails = below_more (λ (j : ℕ). same key (key_v p k j D) ≡ false) α r.fails
            (same_differs key (key_v p k α D) i (λ w. f (at i l e ∙ sym w)));
      }

  -- all agree, and so α is the first that fits
  pub tried_found : {i : ℕ} → Agree key (key_v p k α D) i → length key ≤ i → multiplier p k D key ≡ α
  unfolding multiplier
  tried_found a l =
      first-at p α (λ β. same key (key_v p k β D)) h r.fails (agree_all a (sym zeros ∙ sym (key_v-length p k α D (zeros ∙ sym offsets))) l)
