-- The array of whom outputs name, filled from the words before the end word: the invariant, one turn, and what the whole is.
-- Assumes nothing.
use mathlib.Core.Path.{◌≡◌, refl, ◌∙◌, sym, ap}
use mathlib.Core.List.{List, [], ◌∷◌, ◌++◌}
use Prim.Native.Nat.{ℕ, ◌+◌, ◌-◌, ◌<◌}
use native.Mathlib.Numerals.{add-one}
use native.Mathlib.Omega.{arith}
use lib.ListN.{length, take, drop, set, replicate, length-set, length-replicate}
use lib.Seq.{take-suc-set}
use Rattle.lists.specs.Blocks.{blocks, tab}
use Rattle.words.specs.Bits.{word_at, named}
use Rattle.circuit.specs.Entry.{NamesHeld}
use Rattle.circuit.proofs.Turn.{blank-next}

-- after the first i words from an index on
pub record Naming (file : List ℕ) (first i : ℕ) (array : List ℕ) : Type 0 where
  pub room : length array ≡ 256
  pub front : take i array ≡ tab i (λ j. named (word_at file (first + j)))
  pub blank : drop i array ≡ replicate (256 - i) 0

pub naming_start : {file array : List ℕ} {first : ℕ} → array ≡ replicate 256 0 → Naming file first 0 array
unfolding blocks
naming_start e = record { room = ap length e ∙ length-replicate {A = ℕ} 256 0; front = refl; blank = e }

pub naming_step :
    {file array : List ℕ} {first i v : ℕ}
    → Naming file first i array
    → i < 256
    → v ≡ named (word_at file (first + i))
    → Naming file first (i + 1) (set array i v)
unfolding blocks
naming_step {file} {array} {first} {i} {v} n l e =
    record {
      room = length-set array i v ∙ n.room;
      front =
          ap (λ (k : ℕ). take k (set array i v)) (add-one i) ∙ take-suc-set array i v (omega (arith, n.room))
          ∙ ap (λ (l : List ℕ). l ++ (v ∷ [])) n.front
          ∙ ap (λ (x : ℕ). tab i (λ j. named (word_at file (first + j))) ++ (x ∷ [])) e
          ∙ ap (λ (k : ℕ). tab k (λ j. named (word_at file (first + j)))) (sym (add-one i));
      blank = blank-next array i 256 v 0 n.blank l;
    }

pub naming_whole :
    {file array : List ℕ} {first at count i : ℕ}
    → Naming file first i array
    → first ≡ at - count
    → i ≡ count
    → NamesHeld file at count array
naming_whole {file} {array} {first} {at} {count} n e f =
    record {
      room = n.room;
      front =
          ap (λ (k : ℕ). take k array) (sym f) ∙ n.front
          ∙ ap (λ (k : ℕ). tab k (λ j. named (word_at file (first + j)))) f
          ∙ ap (λ (from : ℕ). tab count (λ j. named (word_at file (from + j)))) e;
      blank = ap (λ (k : ℕ). drop k array) (sym f) ∙ n.blank ∙ ap (λ (k : ℕ). replicate (256 - k) 0) f;
    }
