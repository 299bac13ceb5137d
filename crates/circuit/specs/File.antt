-- Document 01, "The circuit file" and "Where each check stands": what reading a file's bytes comes to. The word at each index is
-- read in turn; the first that is refused decides, with its own first reason.
-- Assumes nothing.
use Rattle.std.specs.Prelude.{Bool, true, false, ◌&&◌, List, [], ◌∷◌, ◌++◌, ℕ, zero, suc, ◌+◌, ◌-◌, ◌*◌, ◌/◌, eqb, ltb, leb, length}
use Rattle.lists.specs.Blocks.{tab}
use Rattle.checks.specs.declared.Refusal.{Refusal}
use Rattle.checks.specs.declared.Refusal.TheVariants.{NoHead, WrongEnd}
use Rattle.words.specs.Bits.{word_at, named}
use Rattle.words.specs.Reading.{read_word}
use Rattle.words.specs.declared.gate.Wire.{Wire}
use Rattle.words.specs.declared.gate.Due.{Due}
use Rattle.words.specs.declared.gate.Due.TheVariants.{Inputs, Outputs}
use Rattle.words.specs.declared.gate.Step.{Step}
use Rattle.words.specs.declared.gate.Step.TheVariants.{Makes, Goes, Gives, Ends}
use Rattle.circuit.specs.Wires.{moduli_of}
use Rattle.checks.specs.Answer.{Answer, accepts, refuses}

-- an answer, and the wires and outputs of the circuit and the parties that each output names, none where it is refused
pub record Read : Type 0 where
  pub answer : Answer
  pub wires : List Wire
  pub outputs : List ℕ
  pub named : List ℕ

abbrev pub refused : Refusal → ℕ → Read
refused reason place = record { answer = refuses reason place; wires = []; outputs = []; named = [] }

abbrev pub accepted : List Wire → List ℕ → List ℕ → Read
accepted wires outputs named = record { answer = accepts; wires = wires; outputs = outputs; named = named }

-- whole words: one to three bytes left over count as a word only after the end word
abbrev pub words_in : List ℕ → ℕ
words_in file = length file / 4

-- order 9: an output word's bits 17 to 10 name parties. The words of so many outputs stand directly before the end word, which is at an index;
-- law `named-there` says so of every file.
abbrev pub named_before : List ℕ → ℕ → ℕ → List ℕ
named_before file at count = tab count (λ i. named (word_at file (at - count + i)))

-- after the end word, at an index, no byte may follow: whatever does, well formed or not, stands at the next index
unfoldable pub ended : Bool → ℕ → List Wire → List ℕ → List ℕ → Read
ended true at wires outputs named = accepted wires outputs named
ended false at wires outputs named = refused WrongEnd (suc at)

-- what a word at an index does to the wires and outputs so far; `next` reads on, with what is due then
unfoldable pub after : (Due → List Wire → List ℕ → Read) → List ℕ → ℕ → List Wire → List ℕ → Step → Read
after next file at wires outputs (Step.Refused reason) = refused reason at
after next file at wires outputs (Makes wire due) = next due (wires ++ (wire ∷ [])) outputs
after next file at wires outputs (Goes due) = next due wires outputs
after next file at wires outputs (Gives wire) = next Outputs wires (outputs ++ (wire ∷ []))
after next file at wires outputs Ends = ended (leb (length file) (4 * suc at)) at wires outputs (named_before file at (length outputs))

-- the words from an index on, so many of them, with what is due and the wires and outputs so far. Where they run out before an end
-- word, the index is the number of words.
unfoldable pub read_from : List ℕ → ℕ → ℕ → Due → List Wire → List ℕ → Read
read_from file zero at due wires outputs = refused WrongEnd at
read_from file (suc left) at due wires outputs =
    after (read_from file left (suc at)) file at wires outputs
    (read_word (moduli_of wires) (length outputs) at due (word_at file at))

-- the first word must be there and be the head; the others follow it, inputs first
abbrev pub has_head : List ℕ → Bool
has_head file = ltb 0 (words_in file) && eqb (word_at file 0) 0x1000_0000

unfoldable pub headed : Bool → List ℕ → Read
headed true file = read_from file (words_in file - 1) 1 Inputs [] []
headed false file = refused NoHead 0

unfoldable pub read_file : List ℕ → Read
read_file file = headed (has_head file) file
