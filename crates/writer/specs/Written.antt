-- Document 02, order 1: what writing a list of records comes to. Each record is judged as the reader judges the words that it stands for, at the record's
-- index; then its words are laid down.
-- Assumes nothing.
use Rattle.std.specs.Prelude.{List, [], ◌∷◌, ◌++◌, ℕ, suc, length}
use Rattle.checks.specs.declared.Refusal.{Refusal}
use Rattle.checks.specs.declared.Refusal.TheVariants.{UnknownWord, WrongLength}
use Rattle.words.specs.declared.gate.Due.{Due}
use Rattle.words.specs.declared.gate.Due.TheVariants.{Inputs, Gates, Outputs, Entries, Branches}
use Rattle.words.specs.declared.gate.Step.{Step}
use Rattle.words.specs.declared.gate.Step.TheVariants.{Refused, Makes, Goes, Gives, Ends}
use Rattle.words.specs.declared.item.Item.{Item}
use Rattle.words.specs.declared.item.Item.TheVariants.{Head, End}
use Rattle.words.specs.Items.{judged}
use Rattle.words.specs.Encode.{word_of}
use Rattle.writer.specs.declared.entry.Record.{Record}
use Rattle.writer.specs.Says.{Speech, nothing, items, speech_of}

-- where the writer stands: the moduli of the wires made so far, how many outputs are given, what is due, the table entries that are left, and the
-- words laid down so far
pub record Draft : Type 0 where
  pub moduli : List ℕ
  pub given : ℕ
  pub due : Due
  pub tables : List ℕ
  pub words : List ℕ

pub data Drafted : Type 0 where
  stopped : Refusal → Drafted
  drafted : Draft → Drafted

-- where nothing is written but the head
abbrev pub blank : List ℕ → Draft
blank tables = record { moduli = []; given = 0; due = Inputs; tables = tables; words = word_of Head ∷ [] }

-- a draft with other table entries left
abbrev pub leaving : Draft → List ℕ → Draft
leaving d left = record { moduli = d.moduli; given = d.given; due = d.due; tables = left; words = d.words }

-- what an item does to the draft; its word is laid down where it is not refused
unfoldable pub after_item : Draft → Item → Step → Drafted
after_item d item (Refused reason) = stopped reason
after_item d item (Makes wire due) =
    drafted (record { moduli = d.moduli ++ (wire.modulus ∷ []); given = d.given; due = due; tables = d.tables; words = d.words ++ (word_of item ∷ []) })
after_item d item (Goes due) =
    drafted (record { moduli = d.moduli; given = d.given; due = due; tables = d.tables; words = d.words ++ (word_of item ∷ []) })
after_item d item (Gives wire) =
    drafted (record { moduli = d.moduli; given = suc d.given; due = Outputs; tables = d.tables; words = d.words ++ (word_of item ∷ []) })
after_item d item Ends =
    drafted (record { moduli = d.moduli; given = d.given; due = d.due; tables = d.tables; words = d.words ++ (word_of item ∷ []) })

-- an item, judged as the reader judges it
abbrev pub laid : Draft → Item → Drafted
laid d item = after_item d item (judged d.moduli d.given (length d.words) d.due item)

-- what is next is done where nothing stopped it
unfoldable pub unless_stopped : Drafted → (Draft → Drafted) → Drafted
unless_stopped (stopped reason) next = stopped reason
unless_stopped (drafted d) next = next d

-- items, one after another
unfoldable pub laid_all : Draft → List Item → Drafted
laid_all d [] = drafted d
laid_all d (item ∷ others) = unless_stopped (laid d item) (λ e. laid_all e others)

-- stopped where entries of a table are still due: they ran out
unfoldable pub whole : Draft → Due → Drafted
whole d Inputs = drafted d
whole d Gates = drafted d
whole d Outputs = drafted d
whole d (Entries left modulus) = stopped WrongLength
whole d (Branches bit) = drafted d

-- what a record says, judged and laid down
unfoldable pub said_to : Draft → Speech → Drafted
said_to d nothing = stopped UnknownWord
said_to d (items says left) =
    unless_stopped (laid_all (leaving d left) says) (λ e. whole e e.due)

abbrev pub recorded : Draft → Record → Drafted
recorded d r = said_to d (speech_of d.moduli d.tables r)

-- what writing comes to: a refusal with its place, or the words of the file
pub data Written : Type 0 where
  refused : Refusal → ℕ → Written
  wrote : List ℕ → Written

-- after the end word no table entry may be left over
unfoldable pub all_taken : ℕ → List ℕ → List ℕ → Written
all_taken place [] words = wrote words
all_taken place (image ∷ images) words = refused WrongLength place

-- the end word, where so many records are written
unfoldable pub closed : ℕ → Drafted → Written
closed place (stopped reason) = refused reason place
closed place (drafted d) = all_taken place d.tables d.words

-- what is next is written where nothing stopped the record at an index
unfoldable pub onward : (Draft → Written) → ℕ → Drafted → Written
onward next place (stopped reason) = refused reason place
onward next place (drafted d) = next d

-- the records from an index on, and the end; the first that is stopped decides
unfoldable pub write_from : ℕ → List Record → Draft → Written
write_from place [] d = closed place (laid d End)
write_from place (r ∷ records) d = onward (write_from (suc place) records) place (recorded d r)

unfoldable pub write_records : List Record → List ℕ → Written
write_records records tables = write_from 0 records (blank tables)
