-- The inputs that a party owns, as the list that the call for external values goes by: its length, its entries, and the place of each.
-- Assumes nothing.
use mathlib.Core.Path.{◌≡◌, refl, sym, ap, ◌∙◌}
use mathlib.Core.Bool.{Bool, true, false, cond, true≢false}
use mathlib.Core.List.{List, [], ◌∷◌}
use Prim.Native.Nat.{ℕ, zero, suc, ◌+◌, ◌≤◌, ◌<◌}
use native.Mathlib.Nat.{not-suc-le-zero, add-zero, le_refl}
use native.Mathlib.Omega.{arith}
use lib.ListN.{length, get_or}
use borrow.Author.Tests.{eqb-true}
use Rattle.lists.specs.Blocks.{blocks, sum_to}
use Rattle.lists.proofs.Sums.{sum_to-fits}
use Rattle.lists.proofs.Blocks.{length-blocks, get_or-blocks}
use Rattle.words.specs.declared.gate.Owned.{Owned}
use Rattle.words.specs.declared.gate.Gate.{Gate}
use Rattle.words.specs.declared.gate.Gate.TheVariants.{Input, Add, Scale, Multiply, Project, Select}
use Rattle.words.specs.declared.gate.Wire.{Wire}
use Rattle.circuit.specs.Wires.{wire_at}
use Rattle.counts.specs.Counts.{mark, owned_by, inputs_of}
use Rattle.scheme.proofs.EachBelow.{in_append}
use Rattle.calls.specs.Externals.{own_inputs}

-- ---- the numbers below n that pass a test, ascending

abbrev pub picked : ℕ → (ℕ → Bool) → List ℕ
picked n test = blocks n (λ i. cond (test i) (i ∷ []) [])

-- how many below i pass: where i passes, its place among them
abbrev pub count_below : (ℕ → Bool) → ℕ → ℕ
count_below test i = sum_to i (λ j. mark (test j))

one_length : (b : Bool) (i : ℕ) → length (cond b (i ∷ []) []) ≡ mark b
one_length true i = refl
one_length false i = refl

-- an entry x of the list, at place k
pub record Picked (n : ℕ) (test : ℕ → Bool) (k x : ℕ) : Type 0 where
  pub below : x < n
  pub passes : test x ≡ true
  pub place : count_below test x ≡ k

module _ (n : ℕ) (test : ℕ → Bool) where
  pub picked_length : length (picked n test) ≡ count_below test n
  picked_length = length-blocks n (λ i. cond (test i) (i ∷ []) []) (λ i. mark (test i)) (λ i _. one_length (test i) i)

  pub picked_inside : (i : ℕ) → i < n → test i ≡ true → count_below test i < length (picked n test)
  picked_inside i h e =
      let fits : count_below test i + 1 ≤ count_below test n = rw (ap mark e) at (sum_to-fits i n (λ j. mark (test j)) h) in
      omega (arith, picked_length)

  pub picked_at : (i d : ℕ) → i < n → test i ≡ true → get_or (picked n test) (count_below test i) d ≡ i
  picked_at i d h e =
      ap (λ (k : ℕ). get_or (picked n test) k d) (sym (add-zero (count_below test i)))
      ∙ get_or-blocks n (λ j. cond (test j) (j ∷ []) []) (λ j. mark (test j)) (λ j _. one_length (test j) j) i 0 d h (rw (ap mark e) (le_refl 1))
      ∙ ap (λ (b : Bool). get_or (cond b (i ∷ []) []) 0 d) e

pub picked_entry : (n : ℕ) (test : ℕ → Bool) (k : ℕ) → k < length (picked n test) → Picked n test k (get_or (picked n test) k 0)
unfolding blocks
picked_entry zero test k h = absurd (not-suc-le-zero h)
picked_entry (suc n) test k h =
    in_append (λ k x. Picked (suc n) test k x) (picked n test) (cond (test n) (n ∷ []) [])
    (λ i l. more (picked_entry n test i l))
    (λ i l. last (test n) refl i l)
    k h
  where
    more : {k x : ℕ} → Picked n test k x → Picked (suc n) test k x
    more r = record { below = omega arith; passes = r.passes; place = r.place }

    last : (b : Bool) → test n ≡ b → (i : ℕ) → i < length (cond b (n ∷ []) []) → Picked (suc n) test (length (picked n test) + i) (get_or (cond b (n ∷ []) []) i 0)
    last true e zero l = record {
      below = omega arith;
      passes = e;
      place = sym (picked_length n test) ∙ sym (add-zero (length (picked n test)));
    }
    last true e (suc i) l = absurd (omega arith)
    last false e i l = absurd (omega arith)

-- ---- a party's own inputs

-- the party owns wire w
abbrev pub owns : ℕ → List Wire → ℕ → Bool
owns party wires w = owned_by party (wire_at wires w).gate

-- the place of wire w among its owner's inputs
abbrev pub place_of : ℕ → List Wire → ℕ → ℕ
place_of party wires w = sum_to w (λ v. mark (owned_by party (wire_at wires v).gate))

-- a gate that a party owns is an input of it
pub owned-input : (party : ℕ) (gate : Gate) → owned_by party gate ≡ true → (g : Owned) × ((gate ≡ Input g) × (g.owner ≡ party))
owned-input party (Input g) e = (g, (refl, eqb-true g.owner party e))
owned-input party (Add g) e = absurd (true≢false (sym e))
owned-input party (Scale g) e = absurd (true≢false (sym e))
owned-input party (Multiply g) e = absurd (true≢false (sym e))
owned-input party (Project g) e = absurd (true≢false (sym e))
owned-input party (Select g) e = absurd (true≢false (sym e))

module _ (party : ℕ) (wires : List Wire) where
  pub own-length : length (own_inputs party wires) ≡ inputs_of party wires
  unfolding own_inputs
  own-length = picked_length (length wires) (owns party wires)

  pub own-inside : (w : ℕ) → w < length wires → owns party wires w ≡ true → place_of party wires w < length (own_inputs party wires)
  unfolding own_inputs
  own-inside w h e = picked_inside (length wires) (owns party wires) w h e

  pub own_at : (w d : ℕ) → w < length wires → owns party wires w ≡ true → get_or (own_inputs party wires) (place_of party wires w) d ≡ w
  unfolding own_inputs
  own_at w d h e = picked_at (length wires) (owns party wires) w d h e

  pub own-entry : (k : ℕ) → k < length (own_inputs party wires) → Picked (length wires) (owns party wires) k (get_or (own_inputs party wires) k 0)
  unfolding own_inputs
  own-entry k h = picked_entry (length wires) (owns party wires) k h
