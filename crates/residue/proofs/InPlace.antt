-- A list that a loop turns into another one, entry by entry from the front: before place i it is the target, from i on what it was.
-- The loops over key vectors have this as their invariant. Assumes nothing.
use mathlib.Core.Path.{◌≡◌, refl, ◌∙◌, sym, ap, subst}
use mathlib.Core.List.{List, zip_with}
use mathlib.Core.Logic.{⊎_elim}
use Prim.Native.Nat.{ℕ, ◌+◌, ◌≤◌, ◌<◌}
use native.Mathlib.Nat.{not-suc-le-zero, eq-or-lt_of_le, le_refl}
use native.Mathlib.Omega.{arith}
use lib.ListN.{length, get_or, set, length-set}
use lib.Seq.{get_or-set_same, get_or-set_other, ext_get_or}
use Rattle.residue.proofs.Vectors.{zip_at}

pub record Turned (target start : List ℕ) (i : ℕ) (out : List ℕ) : Type 0 where
  pub size : length out ≡ length start
  pub past : (k : ℕ) → k < i → get_or out k 0 ≡ get_or target k 0
  pub ahead : (k : ℕ) → i ≤ k → get_or out k 0 ≡ get_or start k 0

pub turned_none : (target start : List ℕ) → Turned target start 0 start
turned_none target start = record { size = refl; past = λ k h. absurd (not-suc-le-zero h); ahead = λ k h. refl }

pub turned_more : {target start out : List ℕ} {i : ℕ} → Turned target start i out → i < length start → (v : ℕ) → v ≡ get_or target i 0
    → Turned target start (i + 1) (set out i v)
turned_more {target} {start} {out} {i} t h v e = record {
  size = length-set out i v ∙ t.size;
  past = λ k l. ⊎_elim
      (λ (w : k ≡ i). subst (λ (n : ℕ). get_or (set out i v) n 0 ≡ get_or target n 0) (sym w)
      (get_or-set_same out i v 0 (omega (arith, t.size)) ∙ e))
      (λ (w : k < i). get_or-set_other out i k v 0 (omega arith) ∙ t.past k w)
      (eq-or-lt_of_le {n = k} {m = i} (omega arith));
  ahead = λ k l. get_or-set_other out i k v 0 (omega arith) ∙ t.ahead k (omega arith);
}

pub turned-all : {target start out : List ℕ} {i : ℕ} → Turned target start i out → length target ≡ length start → length start ≤ i → out ≡ target
turned-all {target} {start} {out} {i} t s h =
    ext_get_or 0 out target (t.size ∙ sym s) (λ k l. t.past k (omega (arith, t.size)))

-- one turn of a loop that applies f to each entry and to the one beside it in ys
pub zip_turn : (f : ℕ → ℕ → ℕ) (ys : List ℕ) {xs out : List ℕ} {i r : ℕ} → Turned (zip_with f xs ys) xs i out → length xs ≡ length ys → i < length ys
    → r ≡ f (get_or out i 0) (get_or ys i 0) → Turned (zip_with f xs ys) xs (i + 1) (set out i r)
zip_turn f ys {xs} {out} {i} {r} t s h e =
    turned_more t (omega arith) r
    (e ∙ ap (λ (x : ℕ). f x (get_or ys i 0)) (t.ahead i (le_refl i)) ∙ sym (zip_at f xs ys s i (omega arith)))
