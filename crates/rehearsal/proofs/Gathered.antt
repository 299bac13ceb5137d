-- All parties' external values, each put to its wire, stand in wire order.
-- Assumes nothing.
use mathlib.Core.Path.{◌≡◌, refl, sym, ap, subst, ◌∙◌}
use mathlib.Core.Bool.{Bool, true, false, cond, true≢false}
use mathlib.Core.List.{List}
use Prim.Native.Nat.{ℕ, zero, suc, ◌<◌}
use native.Mathlib.Omega.{arith}
use lib.ListN.{length, get_or}
use Rattle.lists.specs.Blocks.{tab}
use Rattle.lists.proofs.Blocks.{length-tab, get_or-tab, is-tab}
use Rattle.words.specs.declared.gate.Wire.{Wire}
use Rattle.circuit.specs.Wires.{wire_at, inputs_in}
use Rattle.round.specs.Round.{owner_of, owner_at, place_at}
use Rattle.calls.proofs.OwnInputs.{owns, place_of, owned-input}
use Rattle.rehearsal.specs.Hosts.{own_after, gathered}

-- whoever owns an input is its owner
owner_is : (wires : List Wire) (party w : ℕ) → owns party wires w ≡ true → owner_at wires w ≡ party
owner_is wires party w e =
    let found = owned-input party (wire_at wires w).gate e in
    ap owner_of found.1.0 ∙ found.1.1

module _ (file : List ℕ) (n : ℕ) (wires : List Wire) (values masks before : List ℕ) where
  pub gathered-long : (j : ℕ) → length (gathered file n wires values masks before j) ≡ length before
  unfolding gathered
  gathered-long zero = refl
  gathered-long (suc j) = length-tab (length (gathered file n wires values masks before j)) _ ∙ gathered-long j

  pub gathered-at : (w j : ℕ) → w < length before → owns (owner_at wires w) wires w ≡ true → owner_at wires w < j
      → get_or (gathered file n wires values masks before j) w 0 ≡ get_or (own_after file n wires values masks (owner_at wires w)) (place_at wires w) 0
  unfolding gathered
  gathered-at w zero h own l = absurd (omega arith)
  gathered-at w (suc j) h own l =
      get_or-tab (length (gathered file n wires values masks before j)) _ w 0 (omega (arith, gathered-long j))
      ∙ by (owns j wires w) refl (λ l. gathered-at w j h own l)
    where
      by : (b : Bool) → owns j wires w ≡ b
          → (owner_at wires w < j → get_or (gathered file n wires values masks before j) w 0 ≡ get_or (own_after file n wires values masks (owner_at wires w)) (place_at wires w) 0)
          → cond (owns j wires w) (get_or (own_after file n wires values masks j) (place_of j wires w) 0) (get_or (gathered file n wires values masks before j) w 0)
          ≡ get_or (own_after file n wires values masks (owner_at wires w)) (place_at wires w) 0
      by true e lower =
          ap (λ (b : Bool). cond b (get_or (own_after file n wires values masks j) (place_of j wires w) 0) (get_or (gathered file n wires values masks before j) w 0)) e
          ∙ ap (λ (p : ℕ). get_or (own_after file n wires values masks p) (place_of p wires w) 0) (sym (owner_is wires j w e))
      by false e lower =
          let other : owner_at wires w ≡ j → ⊥ =
          λ q. true≢false (sym (subst (λ (p : ℕ). owns p wires w ≡ true) q own) ∙ e) in
          ap (λ (b : Bool). cond b (get_or (own_after file n wires values masks j) (place_of j wires w) 0) (get_or (gathered file n wires values masks before j) w 0)) e
          ∙ lower (omega arith)

  -- all of them
  pub gathered-all : length before ≡ inputs_in wires → ((w : ℕ) → w < inputs_in wires → owns (owner_at wires w) wires w ≡ true)
      → ((w : ℕ) → w < inputs_in wires → owner_at wires w < n)
      → gathered file n wires values masks before n
      ≡ tab (inputs_in wires) (λ w. get_or (own_after file n wires values masks (owner_at wires w)) (place_at wires w) 0)
  gathered-all size own below =
      is-tab (inputs_in wires) _ (gathered file n wires values masks before n) 0 (gathered-long n ∙ size)
      (λ w h. gathered-at w n (omega arith) (own w h) (below w h))
