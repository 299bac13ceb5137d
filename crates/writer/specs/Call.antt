-- Document 02, order 1: the two calls of an editor: what they promise of all that is lent to them.
-- Assumes nothing.
use Rattle.std.specs.Prelude.{◌≡◌, List, [], ◌∷◌, ◌++◌, ℕ, ◌*◌, leb, length, drop}
use Rattle.checks.specs.declared.Refusal.TheVariants.{TooShort}
use Rattle.checks.specs.Checked.{Reports, and_then, unless, afterwards}
use Rattle.words.specs.Encode.{file_of}
use Rattle.circuit.specs.File.{read_file}
use Rattle.session.specs.Session.{file_checked, lengths_checked}
use Rattle.writer.specs.declared.entry.Record.{Record}
use Rattle.writer.specs.Written.{Written, refused, wrote, write_records}
use Rattle.writer.specs.Listed.{records_of, tables_of}
use Rattle.checks.specs.Answer.{Answer, accepts, refuses}

-- words at the front of a buffer; all bytes past them are as they were
abbrev pub file_with : List ℕ → List ℕ → List ℕ
file_with words file₀ = file_of words ++ drop (4 * length words) file₀

-- the answer of writing, and the words, none where the list is refused
unfoldable pub answer_of : Written → Answer
answer_of (refused reason place) = refuses reason place
answer_of (wrote words) = accepts

unfoldable pub words_of : Written → List ℕ
words_of (refused reason place) = []
words_of (wrote words) = words

-- writing: the records' checks, and 22 last: the buffer has room for the words
module _ (records : List Record) (tables : List ℕ) where
  unfoldable pub words_written : List ℕ
  words_written = words_of (write_records records tables)

  unfoldable pub write_checked : ℕ → Answer
  write_checked size = and_then (answer_of (write_records records tables)) (unless (leb (4 * length words_written) size) TooShort 0)

  -- the number and place that it answers, and the words in the buffer
  pub record WriteCall (file₀ : List ℕ) (words₀ number place : ℕ) (file : List ℕ) (words : ℕ) : Type 0 where
    pub answer : Reports (write_checked (length file₀)) number place
    pub file_is : file ≡ afterwards (write_checked (length file₀)) (file_with words_written file₀) file₀
    pub words_is : words ≡ afterwards (write_checked (length file₀)) (length words_written) words₀

-- loading: a file's records and tables, lengths exact
module _ (file : List ℕ) where
  unfoldable pub records_read : List Record
  records_read = records_of (read_file file).wires (read_file file).outputs (read_file file).named

  unfoldable pub tables_read : List ℕ
  tables_read = tables_of file (read_file file).wires

  -- 1 to 10, and then 14 unless both lent lengths are those of the list and of the tables
  unfoldable pub records_checked : ℕ → ℕ → Answer
  records_checked count size = and_then (file_checked file) (lengths_checked (count ∷ size ∷ []) (length records_read ∷ length tables_read ∷ []))

  pub record RecordsCall (records₀ : List Record) (tables₀ : List ℕ) (number place : ℕ) (records : List Record) (tables : List ℕ) : Type 0 where
    pub answer : Reports (records_checked (length records₀) (length tables₀)) number place
    pub records_are : records ≡ afterwards (records_checked (length records₀) (length tables₀)) records_read records₀
    pub tables_are : tables ≡ afterwards (records_checked (length records₀) (length tables₀)) tables_read tables₀
