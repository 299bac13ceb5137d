-- What the code holds of a draft, and how far it has come along the records, in the code's terms.
-- Assumes nothing.
use Rattle.std.specs.Prelude.{◌≡◌, Bool, true, false, cond, List, ◌++◌, ℕ, ◌+◌, ◌*◌, ◌≤◌, ◌<◌, length, get_or, take, drop}
use Rattle.checks.specs.declared.Refusal.{Refusal}
use Rattle.words.specs.declared.gate.Due.{Due}
use Rattle.words.specs.declared.gate.Due.TheVariants.{Inputs, Gates, Outputs, Entries, Branches}
use Rattle.words.specs.declared.gate.Step.{Step}
use Rattle.words.specs.declared.gate.Step.TheVariants.{Makes}
use Rattle.words.specs.declared.gate.Wire.{Wire}
use Rattle.words.specs.declared.item.Item.TheVariants.{Head}
use Rattle.words.specs.Encode.{word_of, file_of}
use Rattle.writer.specs.declared.entry.Record.{Record}
use Rattle.writer.specs.declared.pen.Pen.{Pen}
use Rattle.writer.specs.declared.speech.Said.{Said}
use Rattle.std.specs.Prelude.{Option}
use Rattle.writer.specs.Says.{speech_of}
use Rattle.writer.specs.Written.{Draft, refused, write_from, write_records}
use Rattle.writer.specs.Desk.{Desk, desk, pen_of, put_word, Means, spoken_on}
use Rattle.checks.specs.Answer.{accepts, refuses}

-- what is read past the last record
abbrev pub no_record : Record
no_record = record { kind = 0; modulus = 0; owner = 0; constant = 0; bit = 0; a = 0; b = 0; named = 0 }

-- the arrays have room, and a selection under way has room for its wire
pub record Steady (pen : Pen) (moduli : List ℕ) : Type 0 where
  pub room : length moduli ≡ 1024
  pub made : pen.made ≤ 1024
  pub given : pen.given ≤ 256
  pub choosing : (bit : ℕ) → pen.due ≡ Branches bit → pen.made < 1024

-- .. and a record takes at most 257 words; a selection that was refused may have laid its first
pub record Ready (pen : Pen) (moduli : List ℕ) : Type 0 where
  pub steady : Steady pen moduli
  pub near : pen.at ≤ 2 + 257 * (pen.made + pen.given)

-- the array has room for a wire that is made
pub record RoomFor (step : Step) (pen : Pen) (moduli : List ℕ) : Type 0 where
  pub room : (wire : Wire) (then : Due) → step ≡ Makes wire then → pen.made < length moduli

-- the head is laid, and nothing else is written
pub record Begun (lay : Bool) (before : List ℕ) (pen : Pen) (after : List ℕ) : Type 0 where
  pub pen_is : pen ≡ pen_of Inputs 0 0 0 1
  pub file_is : after ≡ cond lay (put_word before 0 (word_of Head)) before

-- one record: what it says is done, at the index that is the number of wires and outputs before it
pub record Stepped (lay : Bool) (tables : List ℕ) (entry : Record) (pen : Pen) (moduli file : List ℕ) (pen' : Pen) (moduli' file' : List ℕ) : Type 0 where
  pub speaks : Option Said
  pub means : (ms ts : List ℕ) → Means ms ts speaks (speech_of ms ts entry)
  pub done : desk pen' moduli' file' ≡ spoken_on lay tables (pen.made + pen.given) speaks (desk pen moduli file)

-- what is true of the draft itself: the moduli are bytes and not 0, and that of a table under way is a byte
pub record Sound (d : Draft) : Type 0 where
  pub byte : (w : ℕ) → w < length d.moduli → get_or d.moduli w 0 < 256
  pub positive : (w : ℕ) → w < length d.moduli → 0 < get_or d.moduli w 0
  pub entries : (left modulus : ℕ) → d.due ≡ Entries left modulus → modulus < 256

-- the desk holds a draft: its moduli, numbers and words; the file is as it was, or, in the pass that lays, holds the words at its front, if they have room
pub record Holds (lay : Bool) (before : List ℕ) (k : Desk) (d : Draft) : Type 0 where
  pub answer : k.pen.answer ≡ accepts
  pub steady : Steady k.pen k.moduli
  pub sound : Sound d
  pub moduli : take k.pen.made k.moduli ≡ d.moduli
  pub given : k.pen.given ≡ d.given
  pub due : k.pen.due ≡ d.due
  pub at : k.pen.at ≡ length d.words
  pub size : length k.file ≡ length before
  pub kept : lay ≡ false → k.file ≡ before
  pub laid : lay ≡ true → 4 * length d.words ≤ length before → k.file ≡ file_of d.words ++ drop (4 * length d.words) before

-- between two records
pub data Between : Due → Type 0 where
  inputs : Between Inputs
  gates : Between Gates
  outputs : Between Outputs

-- after the first i records: their draft is on the desk, and the rest of the records comes to what all come to; or one of them was refused
pub data Walked (lay : Bool) (tables before : List ℕ) (records : List Record) (i : ℕ) : Pen → List ℕ → List ℕ → Type 0 where
  goes :
      {pen : Pen} {moduli file : List ℕ} (d : Draft)
      → Holds lay before (desk pen moduli file) d
      → Between d.due
      → pen.at ≤ 1 + 257 * (pen.made + pen.given)
      → i ≡ pen.made + pen.given
      → drop pen.taken tables ≡ d.tables
      → write_from i (drop i records) d ≡ write_records records tables
      → Walked lay tables before records i pen moduli file
  stops :
      {pen : Pen} {moduli file : List ℕ} {reason : Refusal} {place : ℕ}
      → pen.answer ≡ refuses reason place
      → refused reason place ≡ write_records records tables
      → Ready pen moduli
      → (lay ≡ false → file ≡ before)
      → Walked lay tables before records i pen moduli file
