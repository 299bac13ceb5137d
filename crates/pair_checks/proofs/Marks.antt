-- Laws of the search for an offset whose component 0 is not 1: the first byte at the place of a modulus in use.
-- Assumes nothing.
use mathlib.Core.Path.{◌≡◌, refl, sym, ap, ◌∙◌}
use mathlib.Core.Bool.{Bool, true, false, not, ◌&&◌}
use mathlib.Core.List.{List}
use Prim.Native.Nat.{ℕ, ◌*◌, ◌≤◌, ◌<◌}
use native.Mathlib.Nat.{mul-add, add-zero}
use native.Mathlib.Omega.{arith}
use lib.Dec.{eqb}
use lib.ListN.{length, get_or}
use Rattle.lists.specs.Blocks.{tab}
use Rattle.lists.proofs.Parts.{get_d_part}
use Rattle.lists.proofs.Blocks.{get_or-tab}
use Rattle.lists.proofs.Search.{Looking}
use Rattle.words.specs.declared.gate.Wire.{Wire}
use Rattle.circuit.specs.Wires.{inputs_in}
use Rattle.counts.specs.Counts.{mark}
use Rattle.counts.specs.Moduli.{used, used_below, moduli_used}
use Rattle.scheme.specs.Contribution.{offset_at}
use Rattle.scheme.proofs.Places.{offset_past}
use Rattle.contribution.proofs.Wired.{mark-at}
use Rattle.contribution.proofs.Offsets.{looking_as}
use Rattle.pair.specs.Key.{external_of}
use Rattle.pair.specs.Draw.{draw_size, offset_in}
use Rattle.pair.specs.Bytes.{not_one}

mark-true : (b : Bool) → mark b ≡ 1 → b ≡ true
mark-true true e = refl
mark-true false e = absurd (omega arith)

mark_tests : (b : Bool) → eqb (mark b) 1 ≡ b
mark_tests true = refl
mark_tests false = refl

-- what the code tests of a modulus, by its marks and places
abbrev pub marked_not_one : ℕ → List ℕ → List ℕ → List ℕ → ℕ → Bool
marked_not_one k marks ranks draw p = eqb (get_or marks p 0) 1 && not (eqb (get_or draw (k * get_or ranks p 0) 0) 1)

pub marked_is : (k : ℕ) (marks ranks draw : List ℕ) (p : ℕ) {rank : ℕ} {b : Bool} → rank ≡ get_or ranks p 0
    → b ≡ (eqb (get_or marks p 0) 1 && not (eqb (get_or draw (k * rank) 0) 1)) → marked_not_one k marks ranks draw p ≡ b
marked_is k marks ranks draw p {rank} {b} e f =
    sym (f ∙ ap (λ (r : ℕ). eqb (get_or marks p 0) 1 && not (eqb (get_or draw (k * r) 0) 1)) e)

module _ (k : ℕ) (wires : List Wire) (draw : List ℕ) {marks ranks : List ℕ} (some : 1 ≤ k) (size : length draw ≡ draw_size k wires)
    (e : marks ≡ tab 256 (λ p. mark (used wires p))) (f : ranks ≡ tab 256 (used_below wires)) where
  rank_at : (p : ℕ) → p < 256 → get_or ranks p 0 ≡ used_below wires p
  rank_at p h = ap (λ (l : List ℕ). get_or l p 0) f ∙ get_or-tab 256 (used_below wires) p 0 h

  -- an offset that is marked starts inside
  pub marked_inside : (p : ℕ) {rank : ℕ} → p < 256 → rank ≡ get_or ranks p 0 → get_or marks p 0 ≡ 1 → k * rank < length draw
  unfolding draw_size offset_at
  marked_inside p {rank} h z m =
      let past = offset_past k wires p 256 (mark-true (used wires p) (sym (mark-at k (used wires) e p h) ∙ m)) h in
      let place : k * rank ≡ k * used_below wires p = ap (λ (r : ℕ). k * r) (z ∙ rank_at p h) in
      omega (arith, size, mul-add k (moduli_used wires) (inputs_in wires))

  -- its first byte is component 0
  first_byte : (p : ℕ) → external_of (offset_in k wires draw p) ≡ get_or draw (k * used_below wires p) 0
  unfolding external_of offset_in offset_at
  first_byte p =
      get_d_part draw (k * used_below wires p) k 0 0 (omega arith) ∙ ap (λ (i : ℕ). get_or draw i 0) (add-zero (k * used_below wires p))

  pub marked_same : (p : ℕ) → p < 256 → marked_not_one k marks ranks draw p ≡ not_one k wires draw p
  unfolding not_one
  marked_same p h =
      ap (λ (b : Bool). b && not (eqb (get_or draw (k * get_or ranks p 0) 0) 1))
      (ap (λ (m : ℕ). eqb m 1) (mark-at k (used wires) e p h) ∙ mark_tests (used wires p))
      ∙ ap (λ (r : ℕ). used wires p && not (eqb (get_or draw (k * r) 0) 1)) (rank_at p h)
      ∙ ap (λ (x : ℕ). used wires p && not (eqb x 1)) (sym (first_byte p))

  pub marked_found : {i : ℕ} → Looking 256 (marked_not_one k marks ranks draw) i → Looking 256 (not_one k wires draw) i
  marked_found r = looking_as r marked_same
