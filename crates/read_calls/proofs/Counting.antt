-- What a reading holds, counted, is what the file's definition says; and the chain of checks of a party's inputs.
-- Assumes nothing.
use mathlib.Core.Path.{◌≡◌, refl, ap, ap₂, ◌∙◌}
use mathlib.Core.List.{List, ◌++◌}
use Prim.Native.Nat.{ℕ, ◌+◌, ◌-◌, ◌≤◌, ◌<◌}
use native.Mathlib.Omega.{arith}
use lib.ListN.{length, get_or, drop, set, replicate, length-replicate}
use lib.Seq.{length-take-le}
use Rattle.lists.specs.Blocks.{sum_to}
use Rattle.lists.proofs.Filled.{Filled, filled_start, filled_step, filled_done}
use Rattle.checks.specs.Answer.{Answer}
use Rattle.checks.specs.Checked.{and_then}
use Rattle.checks.proofs.Answers.{stage_passed}
use Rattle.words.specs.declared.gate.Wire.{Wire}
use Rattle.circuit.specs.declared.Circuit.{Circuit}
use Rattle.circuit.specs.File.{Read, read_file}
use Rattle.circuit.specs.Wires.{wire_at, modulus_at, moduli_of}
use Rattle.circuit.specs.Held.{wires_in, named_in, Holds}
use Rattle.circuit.proofs.More.{made, modulus-of, inputs_le}
use Rattle.counts.specs.Counts.{rows_by, rows_of, Counts}
use Rattle.counts.specs.Recipe.{recipe}
use Rattle.counts.proofs.Counting.{Summed, rows_same}
use Rattle.counts.proofs.Marked.{marked, marked_next}
use Rattle.counts.proofs.Wires.{drop-replicate, padded-modulus}
use Rattle.session.specs.Session.{parties_checked, party_checked, partakers_checked}
use Rattle.read_calls.specs.InputsOf.{inputs_of_checked}

module _ {circuit : Circuit} {read : Read} (h : Holds circuit read) where
  -- a count of the reading's wires is that of the file's
  pub counted : {limit r : ℕ} (count : List Wire → ℕ) → Counts limit (count (wires_in circuit)) r → r ≡ count read.wires
  counted count k = k.is ∙ ap count h.wires

  -- no more inputs than wires
  pub few-inputs : circuit.inputs ≤ 1024
  few-inputs =
      omega (arith, h.held.inputs, h.held.room.made, h.held.room.wires, inputs_le (wires_in circuit), length-take-le circuit.made circuit.wires (omega (arith, h.held.room.made, h.held.room.wires)))

-- ---- the wires of a circuit, one after another

module _ (wires : List Wire) where
  -- their moduli, written into a table of zeros
  pub table_start : {out : List ℕ} → length wires ≤ 1024 → out ≡ replicate 1024 0 → Filled out 0 (length wires) (moduli_of wires) out
  table_start h e = filled_start (made wires) (omega (arith, ap length e ∙ length-replicate {A = ℕ} 1024 0))

  pub table_step : {out₀ out : List ℕ} {i : ℕ} → Filled out₀ i (length wires) (moduli_of wires) out → i < length wires
      → Filled out₀ (i + 1) (length wires) (moduli_of wires) (set out i (modulus_at wires i))
  table_step {i = i} r h = filled_step r h (modulus-of wires i)

  pub table_done : {out₀ out : List ℕ} {i : ℕ} → out₀ ≡ replicate 1024 0 → Filled out₀ i (length wires) (moduli_of wires) out → length wires ≤ i
      → (a : ℕ) → get_or out a 0 ≡ modulus_at wires a
  table_done {out₀} {out} {i} e r h a =
      ap (λ (l : List ℕ). get_or l a 0)
      (filled_done r h ∙ ap (λ (l : List ℕ). moduli_of wires ++ l) (ap (λ (l : List ℕ). drop (length wires) l) e ∙ drop-replicate 1024 (length wires) 0))
      ∙ padded-modulus wires (1024 - length wires) a

  -- and marked
  pub marks_step : {out : List ℕ} (i : ℕ) {q : ℕ} → out ≡ marked 256 (modulus_at wires) i → q ≡ modulus_at wires i → q < 256
      → set out q 1 ≡ marked 256 (modulus_at wires) (i + 1)
  marks_step {out} i {q} e k l = ap (λ (xs : List ℕ). set xs q 1) e ∙ marked_next 256 (modulus_at wires) i q l k

  -- their rows, by that table
  pub rows_at : (table : List ℕ) → ((a : ℕ) → get_or table a 0 ≡ modulus_at wires a) → (w : ℕ)
      → rows_by (recipe (wire_at wires w)) (λ a. get_or table a 0) (modulus_at wires w) ≡ rows_of wires w
  rows_at table e w = rows_same (recipe (wire_at wires w)) (λ a. get_or table a 0) (modulus_at wires) (modulus_at wires w) e

-- all of them are counted
pub summed-all : {limit : ℕ} {f : ℕ → ℕ} {n i total : ℕ} → Summed limit f n i total → n ≤ i → total ≡ sum_to n f
summed-all {limit} {f} {n} {i} r h = let k : i ≡ n = omega (arith, r.turns) in r.is ∙ ap (λ (m : ℕ). sum_to m f) k

pub marked-all : (f : ℕ → ℕ) {out : List ℕ} {n i : ℕ} → out ≡ marked 256 f i → i ≤ n → n ≤ i → out ≡ marked 256 f n
marked-all f {out} {n} {i} e h k = let l : i ≡ n = omega arith in e ∙ ap (λ (m : ℕ). marked 256 f m) l

-- document 01's order, and order 9's: 1 to 10, 11, 12, 13, 28
module _ {circuit : Circuit} (file : List ℕ) (n party : ℕ) (h : Holds circuit (read_file file)) where
  pub checks_met : {answer : Answer}
      → answer ≡ and_then (parties_checked n) (and_then (party_checked n party) (partakers_checked n (wires_in circuit) (named_in circuit)))
      → answer ≡ inputs_of_checked file n party
  unfolding inputs_of_checked
  checks_met m =
      stage_passed refl h.accepted
      (m ∙ ap₂ (λ (w : List Wire) (s : List ℕ). and_then (parties_checked n) (and_then (party_checked n party) (partakers_checked n w s))) h.wires h.named)
