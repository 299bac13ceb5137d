-- In an accepted circuit that has the words of a part, each wire of the part has the modulus of its gate and, in the plain circuit, the value that the
-- gate computes from those of its wires.
-- Assumes nothing.
use mathlib.Core.Path.{◌≡◌, sym, ap, subst, ◌∙◌}
use mathlib.Core.List.{List, [], ◌∷◌, ◌++◌, map, append_assoc}
use Prim.Native.Nat.{ℕ, zero, suc, ◌+◌, ◌≤◌, ◌<◌}
use native.Mathlib.Nat.{add-zero}
use native.Mathlib.Omega.{arith}
use lib.ListN.{length, get_or, length-append}
use lib.Seq.{get_or-append_seam}
use Rattle.residue.specs.Residue.{add, mul}
use Rattle.words.specs.Bits.{word_at, image}
use Rattle.words.specs.Encode.{word_of}
use Rattle.words.specs.declared.gate.Wire.{Wire}
use Rattle.circuit.specs.Wires.{no_wire, wire_at, modulus_at, moduli_of}
use Rattle.circuit.specs.File.{read_file}
use Rattle.circuit.proofs.Accepted.{accepted}
use Rattle.circuit.proofs.More.{length_more}
use Rattle.plain.specs.Plain.{plain_by, plain_values}
use Rattle.plain.proofs.ByRecipe.{plain_value}
use Rattle.editor.proofs.Encoded.{entry-image}
use Rattle.bundles.specs.Part.{PartGate, Sum, Product, Multiple, Image, items_of, words_of}
use Rattle.integers.proofs.Places.{Stands, stands_left}
use Rattle.integers.proofs.Reaching.{wires_stay}
use Rattle.integers.proofs.Suits.{modulus_of, Suits, AllSuit, part_wire, wire-modulus, suits_wires, moduli_on, entry_word, Arrived, step_on, stands_on, room_on}
use Rattle.checks.specs.Answer.{accepts}

-- what a gate computes
abbrev pub value_of : PartGate → (ℕ → ℕ) → ℕ
value_of (Sum p a b) value = add p (value a) (value b)
value_of (Product p a b) value = mul p (value a) (value b)
value_of (Multiple p constant a) value = mul p constant (value a)
value_of (Image p q a table) value = table (value a)

-- a table is looked up below its length
abbrev pub Ranged : PartGate → (ℕ → ℕ) → Type 0
Ranged (Sum p a b) value = Unit
Ranged (Product p a b) value = Unit
Ranged (Multiple p constant a) value = Unit
Ranged (Image p q a table) value = value a < p

module _ (file values : List ℕ) where
  abbrev wires : List Wire
  wires = (read_file file).wires

  abbrev pub value_at : ℕ → ℕ
  value_at w = get_or (plain_values file wires values) w 0

  -- wire w is that of the gate
  pub record Meets (w : ℕ) (gate : PartGate) : Type 0 where
    pub made : w < length wires
    pub modulus : modulus_at wires w ≡ modulus_of gate
    pub value : Ranged gate value_at → value_at w ≡ value_of gate value_at

  -- the wires from w on are those of the gates
  pub data Each : ℕ → List PartGate → Type 0 where
    none : {w : ℕ} → Each w []
    more : {w : ℕ} {gate : PartGate} {gates : List PartGate} → Meets w gate → Each (suc w) gates → Each w (gate ∷ gates)

  pub each_at : {w : ℕ} {gates : List PartGate} → Each w gates → (i : ℕ) → i < length gates → Meets (w + i) (get_or gates i (Sum 0 0 0))
  each_at Each.none i l = absurd (omega arith)
  each_at {w} (Each.more {gate = gate} m e) zero l = subst (λ (n : ℕ). Meets n gate) (sym (add-zero w)) m
  each_at {w} (Each.more {gates = gates} m e) (suc i) l =
      let n : suc w + i ≡ w + suc i = omega arith in
      subst (λ (n : ℕ). Meets n (get_or gates i (Sum 0 0 0))) n (each_at e i (omega arith))

  -- the value of a gate whose words stand at an index
  by-gate : {at : ℕ} (w : ℕ) {p : ℕ} {moduli : List ℕ} {gate : PartGate}
      → p ≡ modulus_of gate
      → Suits moduli gate
      → Stands file at (map word_of (items_of gate))
      → Ranged gate value_at
      → plain_by file values w p (part_wire at gate).gate value_at ≡ value_of gate value_at
  unfolding plain_by
  by-gate w e (Suits.sum {a = a} {b} f g) s t = ap (λ (p : ℕ). add p (value_at a) (value_at b)) e
  by-gate w e (Suits.product {a = a} {b} f g) s t = ap (λ (p : ℕ). mul p (value_at a) (value_at b)) e
  by-gate w e (Suits.multiple {constant = c} {a} some below small f) s t = ap (λ (p : ℕ). mul p c (value_at a)) e
  by-gate {at} w e (Suits.image {p} {q} {a} {table} some prime small f images) s t =
      let v : ℕ = value_at a in
      let place : at + 1 + v ≡ at + suc v = omega arith in
      ap (λ (n : ℕ). image (word_at file n)) place
      ∙ ap image (entry_word p q a table s v t)
      ∙ entry-image (table v) (omega (arith, small, images.below v t))

  module _ (good : (read_file file).answer ≡ accepts) where
    -- one gate
    module _ {at : ℕ} {before : List Wire} {outputs : List ℕ} {gate : PartGate} (gates : List PartGate)
        (arrived : Arrived file at before outputs) (suit : Suits (moduli_of before) gate) (room : length before + suc (length gates) ≤ 1024)
        (stands : Stands file at (words_of (gate ∷ gates))) where
      wire_is : wire_at wires (length before) ≡ part_wire at gate
      wire_is =
          let next = step_on gates arrived suit room stands in
          let long = wires_stay next.reach good (omega (arith, (stands_on gates arrived suit room stands).inside)) in
          ap (λ (ws : List Wire). wire_at ws (length before)) (long.is ∙ append_assoc before (part_wire at gate ∷ []) long.more)
          ∙ get_or-append_seam before (part_wire at gate) long.more no_wire

      here : length before < length wires
      here =
          let next = step_on gates arrived suit room stands in
          let long = wires_stay next.reach good (omega (arith, (stands_on gates arrived suit room stands).inside)) in
          omega (arith, ap (length {A = Wire}) long.is, length-append (before ++ (part_wire at gate ∷ [])) long.more, length_more before (part_wire at gate))

      modulus_is : modulus_at wires (length before) ≡ modulus_of gate
      modulus_is = ap (λ (wire : Wire). wire.modulus) wire_is ∙ wire-modulus at gate

      meets_one : Meets (length before) gate
      unfolding words_of
      meets_one =
          record {
            made = here;
            modulus = modulus_is;
            value = λ t.
                plain_value (accepted file good) (length before) here values
                ∙ ap (λ (wire : Wire). plain_by file values (length before) (modulus_at wires (length before)) wire.gate value_at) wire_is
                ∙ by-gate (length before) modulus_is suit (stands_left (map word_of (items_of gate)) (words_of gates) stands) t;
          }

    pub meets : {at : ℕ} {before : List Wire} {outputs moduli : List ℕ} {gates : List PartGate}
        → Arrived file at before outputs
        → moduli_of before ≡ moduli
        → AllSuit moduli gates
        → length before + length gates ≤ 1024
        → Stands file at (words_of gates)
        → Each (length before) gates
    meets r e AllSuit.none room s = Each.none
    meets {at} {before} r e (AllSuit.more {gate = gate} {gates = gates} suit suits) room s =
        let f = suits_wires before e suit in
        Each.more (meets_one gates r f room s)
        (subst (λ (n : ℕ). Each n gates) (length_more before (part_wire at gate))
        (meets {at = at + length (map word_of (items_of gate))} {before = before ++ (part_wire at gate ∷ [])} (step_on gates r f room s) (moduli_on before at gate e) suits (room_on gates r f room s) (stands_on gates r f room s)))
