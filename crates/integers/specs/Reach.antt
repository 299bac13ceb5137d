-- How far the reader has come: the words of a file before an index, none of them refused, the wires that they make and the outputs that they give; and
-- bytes that stand in a file where a wire is the next to be made.
-- Assumes nothing.
use Rattle.std.specs.Prelude.{◌≡◌, true, List, [], ◌∷◌, ◌++◌, ℕ, suc, ◌*◌, length}
use Rattle.words.specs.Bits.{word_at}
use Rattle.words.specs.Reading.{read_word}
use Rattle.words.specs.declared.gate.Wire.{Wire}
use Rattle.words.specs.declared.gate.Due.{Due}
use Rattle.words.specs.declared.gate.Due.TheVariants.{Inputs, Outputs}
use Rattle.words.specs.declared.gate.Step.TheVariants.{Makes, Goes, Gives}
use Rattle.circuit.specs.Wires.{moduli_of}
use Rattle.circuit.specs.File.{has_head}

-- at an index, with what is due there, the wires so far and the outputs so far
pub data Reach (file : List ℕ) : ℕ → Due → List Wire → List ℕ → Type 0 where
  begun : has_head file ≡ true → Reach file 1 Inputs [] []
  makes :
      {at : ℕ} {due next : Due} {wires : List Wire} {outputs : List ℕ} {wire : Wire}
      → Reach file at due wires outputs
      → read_word (moduli_of wires) (length outputs) at due (word_at file at) ≡ Makes wire next
      → Reach file (suc at) next (wires ++ (wire ∷ [])) outputs
  goes :
      {at : ℕ} {due next : Due} {wires : List Wire} {outputs : List ℕ}
      → Reach file at due wires outputs
      → read_word (moduli_of wires) (length outputs) at due (word_at file at) ≡ Goes next
      → Reach file (suc at) next wires outputs
  gives :
      {at : ℕ} {due : Due} {wires : List Wire} {outputs : List ℕ} {wire : ℕ}
      → Reach file at due wires outputs
      → read_word (moduli_of wires) (length outputs) at due (word_at file at) ≡ Gives wire
      → Reach file (suc at) Outputs wires (outputs ++ (wire ∷ []))

-- a file has these bytes where wire `next` is the next to be made: behind whole words that make as many wires
pub record Has (file : List ℕ) (next : ℕ) (bytes : List ℕ) : Type 0 where
  pub front : List ℕ
  pub rest : List ℕ
  pub is : file ≡ front ++ (bytes ++ rest)
  pub at : ℕ
  pub whole : length front ≡ 4 * at
  pub due : Due
  pub wires : List Wire
  pub outputs : List ℕ
  pub reached : Reach file at due wires outputs
  pub made : length wires ≡ next
