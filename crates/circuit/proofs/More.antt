-- One wire more at the end: what is true of the wires so far stays true, and the new wire is the last one.
-- Assumes nothing.
use mathlib.Core.Path.{◌≡◌, refl, ◌∙◌, sym, ap, subst, subst⁻¹}
use mathlib.Core.Logic.{⊎_elim}
use mathlib.Core.Bool.{Bool, true, false, cond}
use mathlib.Core.List.{List, [], ◌∷◌, ◌++◌}
use Prim.Native.Nat.{ℕ, suc, ◌≤◌, ◌<◌}
use native.Mathlib.Nat.{lt_trans, eq-or-lt_of_le, le_of_suc-le-suc}
use native.Mathlib.Omega.{arith}
use lib.ListN.{length, get_or, length-append, length-map, get_or-append, get_or-map}
use lib.Seq.{get_or-append_seam}
use Rattle.residue.specs.Prime.{is_prime}
use Rattle.words.specs.declared.gate.Gate.{Gate}
use Rattle.words.specs.declared.gate.Wire.{Wire}
use Rattle.circuit.specs.Wires.{no_wire, wire_at, modulus_at, moduli_of, is_input, inputs_in}
use Rattle.circuit.specs.Accepted.{Alike, GateFits, WireFits}

pub made : (wires : List Wire) → length (moduli_of wires) ≡ length wires
made wires = length-map wires (λ wire. wire.modulus)

pub modulus-of : (wires : List Wire) (a : ℕ) → get_or (moduli_of wires) a 0 ≡ modulus_at wires a
modulus-of wires a = get_or-map (λ wire. wire.modulus) wires a no_wire

-- any list with one element more at its end
module _ {A : Type 0} (xs : List A) (x : A) where
  pub length_more : length (xs ++ (x ∷ [])) ≡ suc (length xs)
  length_more = length-append xs (x ∷ []) ∙ omega arith

  -- what holds at each index so far and at the new one holds at each
  pub each : (P : ℕ → Type 0) → ((i : ℕ) → i < length xs → P i) → P (length xs) → (i : ℕ) → i < length (xs ++ (x ∷ [])) → P i
  each P old new i l =
      ⊎_elim (λ (e : i ≡ length xs). subst⁻¹ P e new) (λ (h : i < length xs). old i h)
      (eq-or-lt_of_le (le_of_suc-le-suc (subst (λ (n : ℕ). i < n) length_more l)))

-- the wires so far are still there
pub wire-kept : (wires more : List Wire) (w : ℕ) → w < length wires → wire_at (wires ++ more) w ≡ wire_at wires w
wire-kept wires more w h = get_or-append wires more no_wire w h

pub modulus-kept : (wires more : List Wire) (w : ℕ) → w < length wires → modulus_at (wires ++ more) w ≡ modulus_at wires w
modulus-kept wires more w h = ap (λ (wire : Wire). wire.modulus) (wire-kept wires more w h)

module _ (file : List ℕ) (wires more : List Wire) (w : ℕ) (h : w < length wires) where
  alike_kept : (a : ℕ) → Alike wires w a → Alike (wires ++ more) w a
  alike_kept a f =
      record {
        lower = f.lower;
        same = modulus-kept wires more a (lt_trans f.lower h) ∙ f.same ∙ sym (modulus-kept wires more w h);
      }

  gate_kept : (gate : Gate) → GateFits file wires w gate → GateFits file (wires ++ more) w gate
  gate_kept _ (GateFits.input f) = GateFits.input f
  gate_kept _ (GateFits.add f) = GateFits.add (record { a = alike_kept _ f.a; b = alike_kept _ f.b })
  gate_kept _ (GateFits.scale f) =
      GateFits.scale
      (record { a = alike_kept _ f.a; positive = f.positive; below = rw (modulus-kept wires more w h) f.below })
  gate_kept _ (GateFits.multiply f) = GateFits.multiply (record { a = alike_kept _ f.a; b = alike_kept _ f.b })
  gate_kept _ (GateFits.project {gate} f) =
      GateFits.project {gate = gate}
      (record {
        lower = f.lower;
        entries =
            λ v l. rw (modulus-kept wires more w h)
            (f.entries v (rw (modulus-kept wires more gate.a (lt_trans f.lower h)) at l));
      })
  gate_kept _ (GateFits.select {gate} f) =
      GateFits.select {gate = gate}
      (record {
        lower = f.lower;
        binary = modulus-kept wires more gate.bit (lt_trans f.lower h) ∙ f.binary;
        a = alike_kept _ f.a;
        b = alike_kept _ f.b;
      })

  pub fits_kept : WireFits file wires w → WireFits file (wires ++ more) w
  fits_kept f =
      record {
        prime = rw (modulus-kept wires more w h) f.prime;
        byte = rw (modulus-kept wires more w h) f.byte;
        gate = rw (wire-kept wires more w h) (gate_kept _ f.gate);
      }

-- the new wire
module _ (wires : List Wire) (x : Wire) where
  pub wire-new : wire_at (wires ++ (x ∷ [])) (length wires) ≡ x
  wire-new = get_or-append_seam wires x [] no_wire

  pub modulus-new : modulus_at (wires ++ (x ∷ [])) (length wires) ≡ x.modulus
  modulus-new = ap (λ (wire : Wire). wire.modulus) wire-new

  pub fits-new :
      (file : List ℕ) → is_prime x.modulus ≡ true → x.modulus < 256 → GateFits file (wires ++ (x ∷ [])) (length wires) x.gate
      → WireFits file (wires ++ (x ∷ [])) (length wires)
  fits-new file p l g = record { prime = rw modulus-new p; byte = rw modulus-new l; gate = rw wire-new g }

-- the inputs
pub inputs_le : (wires : List Wire) → inputs_in wires ≤ length wires
unfolding inputs_in
inputs_le [] = omega arith
inputs_le (x ∷ wires) = by (is_input x.gate) (inputs_le wires)
  where
    by : (b : Bool) → inputs_in wires ≤ length wires → cond b (suc (inputs_in wires)) (inputs_in wires) ≤ suc (length wires)
    by true h = omega arith
    by false h = omega arith

pub inputs-more : (wires : List Wire) (x : Wire) → inputs_in (wires ++ (x ∷ [])) ≡ cond (is_input x.gate) (suc (inputs_in wires)) (inputs_in wires)
unfolding inputs_in
inputs-more [] x = refl
inputs-more (y ∷ wires) x = rw (inputs-more wires x) (by (is_input y.gate) (is_input x.gate))
  where
    by : (b d : Bool) → cond b (suc (cond d (suc (inputs_in wires)) (inputs_in wires))) (cond d (suc (inputs_in wires)) (inputs_in wires))
        ≡ cond d (suc (cond b (suc (inputs_in wires)) (inputs_in wires))) (cond b (suc (inputs_in wires)) (inputs_in wires))
    by true true = refl
    by true false = refl
    by false true = refl
    by false false = refl
