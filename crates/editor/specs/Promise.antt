-- Document 02, order 1: "what it writes, the reader takes back to the same list, and any accepted file comes out of the writer as the same words"; and "a bad
-- record gives the reader's number".
-- Assumes nothing.
use Rattle.std.specs.Prelude.{◌≡◌, List, [], ◌∷◌, ◌++◌, ℕ, ◌<◌, length, get_or, take, drop}
use Rattle.lists.specs.Blocks.{tab}
use Rattle.checks.specs.declared.Refusal.{Refusal}
use Rattle.checks.specs.declared.Refusal.TheVariants.{UnknownWord, WrongLength}
use Rattle.words.specs.declared.gate.Due.TheVariants.{Entries}
use Rattle.words.specs.declared.gate.Step.{Step}
use Rattle.words.specs.declared.item.Item.{Item}
use Rattle.words.specs.declared.item.Item.TheVariants.{End}
use Rattle.words.specs.Bits.{word_at}
use Rattle.words.specs.Items.{judged}
use Rattle.words.specs.Encode.{word_of, file_of}
use Rattle.words.specs.Fits.{Fits}
use Rattle.circuit.specs.File.{words_in, read_file}
use Rattle.writer.specs.declared.entry.Record.{Record}
use Rattle.writer.specs.Says.{nothing, items, speech_of}
use Rattle.writer.specs.Written.{Draft, Drafted, drafted, blank, leaving, unless_stopped, laid_all, recorded, refused, wrote, write_records}
use Rattle.writer.specs.Call.{records_read, tables_read}
use Rattle.checks.specs.Answer.{accepts, refuses}

-- written and read: the file of the words is accepted, and its list is the editor's
pub record ReadBack (records : List Record) (tables words : List ℕ) : Type 0 where
  pub accepted : (read_file (file_of words)).answer ≡ accepts
  pub records_are : records_read (file_of words) ≡ records
  pub tables_are : tables_read (file_of words) ≡ tables

abbrev pub WrittenIsRead : Type 0
WrittenIsRead = (records : List Record) (tables words : List ℕ) → write_records records tables ≡ wrote words → ReadBack records tables words

-- every element of a file is a byte
pub record Bytes (file : List ℕ) : Type 0 where
  pub byte : (i : ℕ) → i < length file → get_or file i 0 < 256

-- read and written: the list of an accepted file is written as the file's own words, and so as its bytes
pub record WrittenBack (file : List ℕ) : Type 0 where
  pub words : write_records (records_read file) (tables_read file) ≡ wrote (tab (words_in file) (word_at file))
  pub bytes : file_of (tab (words_in file) (word_at file)) ≡ file

abbrev pub ReadIsWritten : Type 0
ReadIsWritten = (file : List ℕ) → Bytes file → (read_file file).answer ≡ accepts → WrittenBack file

-- writing the first records, up to an index, comes to a draft
unfoldable pub drafted_to : List Record → Draft → Drafted
drafted_to [] d = drafted d
drafted_to (r ∷ records) d = unless_stopped (recorded d r) (drafted_to records)

-- the draft before the record at an index, and that record
pub record Before (records : List Record) (tables : List ℕ) (place : ℕ) (d : Draft) (r : Record) : Type 0 where
  pub others : List Record
  pub drafts : drafted_to (take place records) (blank tables) ≡ drafted d
  pub here : drop place records ≡ r ∷ others

-- the draft at which an item of the record at an index is judged, or the end behind the last record
pub data Reached (records : List Record) (tables : List ℕ) (place : ℕ) : Draft → Item → Type 0 where
  inside :
      {d e : Draft} {r : Record} {x : Item} (before : List Item) (later : List Item) {left : List ℕ}
      → Before records tables place d r
      → speech_of d.moduli d.tables r ≡ items (before ++ (x ∷ later)) left
      → laid_all (leaving d left) before ≡ drafted e
      → Reached records tables place e x
  behind : {d : Draft} → place ≡ length records → drafted_to records (blank tables) ≡ drafted d → Reached records tables place d End

-- Where the writer refuses: the record there says nothing; or its items are laid and entries of its table are still due; or all records are written and
-- entries are left over; or an item is refused, and if its fields fit their bits, then every file with the words before it and its word is refused
-- there with the same reason, whatever words follow.
pub data RefusedSo (records : List Record) (tables : List ℕ) (reason : Refusal) (place : ℕ) : Type 0 where
  unknown :
      {d : Draft} {r : Record}
      → reason ≡ UnknownWord
      → Before records tables place d r
      → speech_of d.moduli d.tables r ≡ nothing
      → RefusedSo records tables reason place
  short :
      {d e : Draft} {r : Record} {says : List Item} {left : List ℕ} {due modulus : ℕ}
      → reason ≡ WrongLength
      → Before records tables place d r
      → speech_of d.moduli d.tables r ≡ items says left
      → laid_all (leaving d left) says ≡ drafted e
      → e.due ≡ Entries due modulus
      → RefusedSo records tables reason place
  over :
      {d : Draft} {image : ℕ} {images : List ℕ}
      → reason ≡ WrongLength
      → place ≡ length records
      → drafted_to records (blank tables) ≡ drafted d
      → d.tables ≡ image ∷ images
      → RefusedSo records tables reason place
  item :
      {d : Draft} {x : Item}
      → Reached records tables place d x
      → judged d.moduli d.given (length d.words) d.due x ≡ Step.Refused reason
      → (Fits x → (rest : List ℕ) → (read_file (file_of (d.words ++ (word_of x ∷ rest)))).answer ≡ refuses reason (length d.words))
      → RefusedSo records tables reason place

abbrev pub RefusedIsRefused : Type 0
RefusedIsRefused = (records : List Record) (tables : List ℕ) (reason : Refusal) (place : ℕ) → write_records records tables ≡ refused reason place → RefusedSo records tables reason place
