-- The list of a circuit with one wire or one output more: a record more, and the new wire's table behind the others.
-- Assumes nothing.
use mathlib.Core.Path.{◌≡◌, refl, sym, ap, ap₂, ◌∙◌}
use mathlib.Core.List.{List, [], ◌∷◌, ◌++◌, map, zip_with, map-append, append-nil, append_assoc}
use Prim.Native.Nat.{ℕ, suc, ◌+◌, ◌-◌, ◌≤◌, ◌<◌}
use native.Mathlib.Nat.{lt_trans}
use native.Mathlib.Omega.{arith}
use lib.ListN.{length}
use Rattle.lists.specs.Blocks.{blocks, tab}
use Rattle.lists.proofs.Blocks.{blocks_ext, length-tab}
use Rattle.words.specs.Bits.{word_at, named, image}
use Rattle.words.specs.declared.gate.Gate.{Gate}
use Rattle.words.specs.declared.gate.Wire.{Wire}
use Rattle.circuit.specs.Wires.{wire_at}
use Rattle.circuit.specs.File.{named_before}
use Rattle.circuit.specs.Accepted.{GateFits}
use Rattle.circuit.proofs.More.{length_more, wire-kept, wire-new, modulus-kept}
use Rattle.circuit.proofs.State.{Sound}
use Rattle.writer.specs.declared.entry.Record.{Record}
use Rattle.writer.specs.Listed.{wire_record, output_record, records_of, table_of, tables_of}

-- the list of what is read before an index of a file: the outputs' words stand directly before it
abbrev pub records_before : List ℕ → ℕ → List Wire → List ℕ → List Record
records_before file at wires outputs = records_of wires outputs (named_before file at (length outputs))

-- the word at the index is one more of them
module _ (file : List ℕ) (at count : ℕ) (enough : count ≤ at) where
  first_same : suc at - suc count ≡ at - count
  first_same = omega arith

  last_here : at - count + count ≡ at
  last_here = omega arith

  names_more : named_before file (suc at) (suc count) ≡ named_before file at count ++ (named (word_at file at) ∷ [])
  unfolding blocks
  names_more =
      ap (λ (first : ℕ). tab (suc count) (λ (i : ℕ). named (word_at file (first + i)))) first_same
      ∙ ap (λ (place : ℕ). named_before file at count ++ (named (word_at file place) ∷ [])) last_here

zip_more :
    (f : ℕ → ℕ → Record) (xs ys : List ℕ) (x y : ℕ)
    → length xs ≡ length ys
    → zip_with f (xs ++ (x ∷ [])) (ys ++ (y ∷ [])) ≡ zip_with f xs ys ++ (f x y ∷ [])
unfolding zip_with
zip_more f [] [] x y e = refl
zip_more f [] (b ∷ ys) x y e = absurd (omega (arith, e))
zip_more f (a ∷ xs) [] x y e = absurd (omega (arith, e))
zip_more f (a ∷ xs) (b ∷ ys) x y e = ap (λ (rs : List Record). f a b ∷ rs) (zip_more f xs ys x y (omega (arith, e)))

pub one_output :
    (file : List ℕ) (at : ℕ) (wires : List Wire) (outputs : List ℕ) (b : ℕ) {parties : ℕ}
    → length outputs ≤ at
    → named (word_at file at) ≡ parties
    → records_before file (suc at) wires (outputs ++ (b ∷ [])) ≡ records_before file at wires outputs ++ (output_record b parties ∷ [])
one_output file at wires outputs b {parties} h e =
    ap (λ (names : List ℕ). records_of wires (outputs ++ (b ∷ [])) names)
    (ap (named_before file (suc at)) (length_more outputs b) ∙ names_more file at (length outputs) h
    ∙ ap (λ (n : ℕ). named_before file at (length outputs) ++ (n ∷ [])) e)
    ∙ ap (λ (rs : List Record). map wire_record wires ++ rs)
    (zip_more output_record outputs (named_before file at (length outputs)) b parties
    (sym (length-tab (length outputs) (λ (i : ℕ). named (word_at file (at - length outputs + i))))))
    ∙ sym (append_assoc (map wire_record wires) (zip_with output_record outputs (named_before file at (length outputs))) (output_record b parties ∷ []))

-- where there is no output none is named, whatever stands before the index
pub one-wire :
    (wires : List Wire) {outputs : List ℕ} (x : Wire) (now later : List ℕ)
    → outputs ≡ []
    → records_of (wires ++ (x ∷ [])) outputs later ≡ records_of wires outputs now ++ (wire_record x ∷ [])
unfolding zip_with
one-wire wires x now later e =
    rw (e, append-nil (map wire_record (wires ++ (x ∷ []))), append-nil (map wire_record wires)) (map-append wire_record wires (x ∷ []))

-- the wires before keep their tables
module _ (file : List ℕ) (wires : List Wire) (x : Wire) where
  gate_table : (w : ℕ) → w < length wires → {gate : Gate} → GateFits file wires w gate → table_of file (wires ++ (x ∷ [])) gate ≡ table_of file wires gate
  gate_table w h (GateFits.input f) = refl
  gate_table w h (GateFits.add f) = refl
  gate_table w h (GateFits.scale f) = refl
  gate_table w h (GateFits.multiply f) = refl
  gate_table w h (GateFits.project {gate} f) =
      ap (λ (n : ℕ). tab n (λ (v : ℕ). image (word_at file (gate.table + v)))) (modulus-kept wires (x ∷ []) gate.a (lt_trans f.lower h))
  gate_table w h (GateFits.select f) = refl

  module _ {at : ℕ} {given : List ℕ} (s : Sound file at wires given) where
    kept : (w : ℕ) → w < length wires → table_of file (wires ++ (x ∷ [])) (wire_at (wires ++ (x ∷ [])) w).gate ≡ table_of file wires (wire_at wires w).gate
    kept w h =
        ap (λ (wire : Wire). table_of file (wires ++ (x ∷ [])) wire.gate) (wire-kept wires (x ∷ []) w h) ∙ gate_table w h (s.fits w h).gate

    pub one_table : tables_of file (wires ++ (x ∷ [])) ≡ tables_of file wires ++ table_of file (wires ++ (x ∷ [])) x.gate
    unfolding blocks
    one_table =
        ap (λ (n : ℕ). blocks n (λ w. table_of file (wires ++ (x ∷ [])) (wire_at (wires ++ (x ∷ [])) w).gate)) (length_more wires x)
        ∙ ap₂ (◌++◌ {A = ℕ})
        (blocks_ext (length wires) (λ w. table_of file (wires ++ (x ∷ [])) (wire_at (wires ++ (x ∷ [])) w).gate) (λ w. table_of file wires (wire_at wires w).gate) kept)
        (ap (λ (wire : Wire). table_of file (wires ++ (x ∷ [])) wire.gate) (wire-new wires x))

    -- a wire with no table
    pub no_table : table_of file (wires ++ (x ∷ [])) x.gate ≡ [] → tables_of file (wires ++ (x ∷ [])) ≡ tables_of file wires
    no_table e = one_table ∙ ap (λ (t : List ℕ). tables_of file wires ++ t) e ∙ append-nil (tables_of file wires)
