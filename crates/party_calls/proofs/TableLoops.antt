-- The loops that make tables of moduli: one for each output, and one for each input that a party owns.
-- Assumes nothing.
use mathlib.Core.Path.{◌≡◌, refl, sym, ap, ◌∙◌}
use mathlib.Core.Bool.{Bool, true, false}
use mathlib.Core.List.{List, ◌++◌}
use Prim.Native.Nat.{ℕ, ◌+◌, ◌-◌, ◌≤◌, ◌<◌}
use native.Mathlib.Decide.{dec_lt}
use native.Mathlib.Omega.{arith}
use lib.ListN.{length, get_or, set, replicate, length-set}
use lib.Seq.{get_or-take, get_or-set_same, get_or-set_other, length-take-le}
use Rattle.lists.specs.Blocks.{tab, sum_to}
use Rattle.lists.proofs.Blocks.{length-tab, get_or-tab}
use Rattle.lists.proofs.Sums.{sum_to-next}
use Rattle.lists.proofs.Filled.{Filled, filled_start, filled_step, filled_front}
use Rattle.words.specs.declared.gate.Wire.{Wire}
use Rattle.circuit.specs.declared.Circuit.{Circuit}
use Rattle.circuit.specs.Wires.{wire_at, modulus_at, moduli_of}
use Rattle.circuit.specs.Held.{wires_in, Room}
use Rattle.counts.specs.Counts.{mark, owned_by, Counts}
use Rattle.counts.proofs.Wires.{padded-modulus}
use Rattle.calls.specs.Externals.{own_inputs}
use Rattle.calls.proofs.OwnInputs.{owns, place_of, own-length, own_at}
use Rattle.party_calls.specs.Tables.{Front}

-- ---- the wires

pub front-moduli : {circuit : Circuit} → Room circuit → {table : List ℕ} → table ≡ moduli_of (wires_in circuit) ++ replicate (1024 - circuit.made) 0 → (i : ℕ)
    → get_or table i 0 ≡ modulus_at (wires_in circuit) i
front-moduli {circuit} room e i = ap (λ (l : List ℕ). get_or l i 0) e ∙ padded-modulus (wires_in circuit) (1024 - circuit.made) i

pub wires_few : {circuit : Circuit} → Room circuit → length (wires_in circuit) ≤ 1024
wires_few {circuit} room = omega (arith, room.made, length-take-le circuit.made circuit.wires (omega (arith, room.made, room.wires)))

-- ---- the outputs

pub front_same : {size m n : ℕ} {f : ℕ → ℕ} {xs : List ℕ} → m ≡ n → Front size m f xs → Front size n f xs
front_same e t = record { long = t.long; entry = λ i l. t.entry i (omega arith) }

module _ (wires : List Wire) (outputs : List ℕ) where
  abbrev output_modulus : ℕ → ℕ
  output_modulus i = modulus_at wires (get_or outputs i 0)

  abbrev pub FilledOutputs : List ℕ → ℕ → List ℕ → Type 0
  FilledOutputs out₀ i out = Filled out₀ i (length outputs) (tab (length outputs) output_modulus) out

  pub outputs_start : {out₀ : List ℕ} → length outputs ≤ 1024 → length out₀ ≡ 1024 → FilledOutputs out₀ 0 out₀
  outputs_start h e = filled_start (length-tab (length outputs) output_modulus) (omega (arith, e))

  pub outputs-step : {out₀ out : List ℕ} {i v : ℕ} → FilledOutputs out₀ i out → i < length outputs → v ≡ modulus_at wires (get_or outputs i 0)
      → FilledOutputs out₀ (i + 1) (set out i v)
  outputs-step {out₀} {out} {i} {v} r h k = filled_step r h (get_or-tab (length outputs) output_modulus i 0 h ∙ sym k)

  pub outputs-front : {out₀ out : List ℕ} {i : ℕ} → length out₀ ≡ 1024 → FilledOutputs out₀ i out → length outputs ≤ i
      → Front 1024 (length outputs) output_modulus out
  outputs-front {out₀} {out} {i} e r h =
      record {
        long = r.kept ∙ e;
        entry = λ j l. sym (get_or-take (length outputs) out j 0 l)
            ∙ ap (λ (xs : List ℕ). get_or xs j 0) (filled_front r h)
            ∙ get_or-tab (length outputs) output_modulus j 0 l;
      }

-- ---- a party's own inputs: those among the first w wires stand in the table

pub record OwnTo (party : ℕ) (wires : List Wire) (w count : ℕ) (out : List ℕ) : Type 0 where
  pub counted : count ≡ place_of party wires w
  pub most : count ≤ w
  pub long : length out ≡ 1024
  pub entry : (j : ℕ) → j < count → get_or out j 0 ≡ modulus_at wires (get_or (own_inputs party wires) j 0)

module _ (party : ℕ) (wires : List Wire) where
  pub own_start : {out : List ℕ} → length out ≡ 1024 → OwnTo party wires 0 0 out
  unfolding sum_to
  own_start e = record { counted = refl; most = omega arith; long = e; entry = λ j l. absurd (omega arith) }

  module _ {w count v : ℕ} {out : List ℕ} (few : length wires ≤ 1024) (r : OwnTo party wires w count out) (h : w < length wires)
      (k : Counts 1 (mark (owned_by party (wire_at wires w).gate)) v) where
    here : v ≡ mark (owns party wires w)
    here = k.is

    new : (b : Bool) → owns party wires w ≡ b → (j : ℕ) → j ≡ count → j < count + v → modulus_at wires w ≡ modulus_at wires (get_or (own_inputs party wires) j 0)
    new true e j q l =
        ap (modulus_at wires) (sym (own_at party wires w 0 h e) ∙ ap (λ (i : ℕ). get_or (own_inputs party wires) i 0) (sym r.counted ∙ sym q))
    new false e j q l = absurd (omega (arith, here ∙ ap mark e))

    pub own-step : OwnTo party wires (w + 1) (count + v) (set out count (modulus_at wires w))
    own-step =
        record {
          counted = ap (λ (n : ℕ). n + v) r.counted ∙ ap (λ (n : ℕ). place_of party wires w + n) here ∙ sym (sum_to-next w (λ i. mark (owns party wires i)));
          most = omega (arith, r.most, k.most);
          long = length-set out count (modulus_at wires w) ∙ r.long;
          entry = λ j l. by j l (dec_lt j count);
        }
      where
        by : (j : ℕ) → j < count + v → Dec (j < count) → get_or (set out count (modulus_at wires w)) j 0 ≡ modulus_at wires (get_or (own_inputs party wires) j 0)
        by j l (yes m) = get_or-set_other out count j (modulus_at wires w) 0 (λ z. absurd (omega arith)) ∙ r.entry j m
        by j l (no m) =
            let q : j ≡ count = omega (arith, k.most) in
            ap (λ (i : ℕ). get_or (set out count (modulus_at wires w)) i 0) q
            ∙ get_or-set_same out count (modulus_at wires w) 0 (omega (arith, r.most, r.long))
            ∙ new (owns party wires w) refl j q l

  pub own-front : {w count : ℕ} {out : List ℕ} → OwnTo party wires w count out → w ≤ length wires → length wires ≤ w
      → Front 1024 (length (own_inputs party wires)) (λ i. modulus_at wires (get_or (own_inputs party wires) i 0)) out
  own-front {w} {count} {out} r h k =
      let e : w ≡ length wires = omega arith in
      let all : length (own_inputs party wires) ≡ count = own-length party wires ∙ ap (place_of party wires) (sym e) ∙ sym r.counted in
      record { long = r.long; entry = λ j l. r.entry j (omega arith) }
