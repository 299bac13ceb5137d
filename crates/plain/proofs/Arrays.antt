-- What the loops over a circuit's arrays hold to.
-- Assumes nothing.
use mathlib.Core.Path.{◌≡◌, refl, sym, ap, subst, ◌∙◌}
use mathlib.Core.List.{List}
use Prim.Native.Nat.{ℕ, ◌+◌, ◌≤◌, ◌<◌}
use native.Mathlib.Omega.{arith}
use lib.ListN.{length, get_or, set}
use lib.Seq.{length-take-le}
use Rattle.lists.specs.Blocks.{tab}
use Rattle.lists.specs.Grown.{grown}
use Rattle.lists.proofs.Blocks.{length-tab, get_or-tab}
use Rattle.lists.proofs.Filled.{Filled, filled_start, filled_step, filled_whole}
use Rattle.words.specs.declared.gate.Wire.{Wire}
use Rattle.circuit.specs.declared.Circuit.{Circuit}
use Rattle.circuit.specs.Held.{outputs_in}
use Rattle.plain.specs.Plain.{plain_to}
use Rattle.plain.specs.Ready.{Done, Gives}

-- ---- the values of all wires

module _ {file : List ℕ} {wires : List Wire} {values : List ℕ} where
  pub values_start : {done : List ℕ} → length done ≡ 1024 → Done file wires values 0 done
  unfolding plain_to grown
  values_start e = record { kept = e; front = refl }

  pub values-done : {w made : ℕ} {done : List ℕ} → Done file wires values w done → w ≤ length wires → length wires ≤ w → length wires ≡ made → Done file wires values made done
  values-done {w} {made} {done} r h k m =
      let e : w ≡ made = omega arith in
      subst (λ (n : ℕ). Done file wires values n done) e r

-- ---- the outputs

module _ {circuit : Circuit} {done : List ℕ} {bytes : ℕ} (gives : Gives circuit done bytes) where
  abbrev outputs : List ℕ
  outputs = outputs_in circuit

  abbrev look : ℕ → ℕ
  look i = get_or done (get_or outputs i 0) 0

  abbrev all : List ℕ
  all = tab (length outputs) look

  given_is : length outputs ≡ circuit.given
  given_is = length-take-le circuit.given circuit.outputs (omega (arith, gives.given, gives.outputs))

  pub outputs_start : {out₀ : List ℕ} → length out₀ ≡ bytes → Filled out₀ 0 (length outputs) all out₀
  outputs_start e = filled_start (length-tab (length outputs) look) (omega (arith, gives.size, given_is))

  pub outputs-step : {out₀ out : List ℕ} {i at : ℕ} → Filled out₀ i (length outputs) all out → i < length outputs → at ≡ get_or outputs i 0
      → Filled out₀ (i + 1) (length outputs) all (set out i (get_or done at 0))
  outputs-step {out₀} {out} {i} {at} r h e =
      filled_step r h (get_or-tab (length outputs) look i 0 h ∙ ap (λ (o : ℕ). get_or done o 0) (sym e))

  pub outputs-done : {out₀ out : List ℕ} {i : ℕ} → Filled out₀ i (length outputs) all out → length out₀ ≡ bytes → length outputs ≤ i → out ≡ all
  outputs-done r e h = filled_whole r (omega (arith, gives.size, given_is))
