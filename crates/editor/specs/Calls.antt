-- Document 02, order 1: the round trip as a host in C sees it, over what the two calls promise of all that is lent to them.
-- Assumes nothing.
use Rattle.std.specs.Prelude.{◌≡◌, List, ◌++◌, ℕ, ◌*◌, ◌≤◌, length, take, drop}
use Rattle.writer.specs.declared.entry.Record.{Record}
use Rattle.writer.specs.Call.{WriteCall, RecordsCall}
use Rattle.editor.specs.Promise.{Bytes}

-- a list that is loaded is accepted, and is the editor's
pub record Loaded (records : List Record) (tables : List ℕ) (number : ℕ) (loaded : List Record) (images : List ℕ) : Type 0 where
  pub accepted : number ≡ 0
  pub records_are : loaded ≡ records
  pub tables_are : images ≡ tables

-- `lupiknam_write` has accepted records and tables; then `lupiknam_records`, lent the words that were written and room for as many records and entries,
-- gives both back
abbrev pub WrittenIsLoaded : Type 0
WrittenIsLoaded =
    (records records₀ loaded : List Record) (tables tables₀ images file₀ file : List ℕ) (words₀ words place number' place' : ℕ)
    → WriteCall records tables file₀ words₀ 0 place file words
    → length records₀ ≡ length records
    → length tables₀ ≡ length tables
    → RecordsCall (take (4 * words) file) records₀ tables₀ number' place' loaded images
    → Loaded records tables number' loaded images

-- a file that is written again is accepted, and stands at the front of the buffer
pub record Rewritten (file file₀ : List ℕ) (number : ℕ) (written : List ℕ) (words : ℕ) : Type 0 where
  pub accepted : number ≡ 0
  pub file_is : written ≡ file ++ drop (length file) file₀
  pub words_are : 4 * words ≡ length file

-- `lupiknam_records` has accepted a file; then `lupiknam_write`, lent the list that it gave and a buffer at least as long as the file, writes the
-- file
abbrev pub LoadedIsWritten : Type 0
LoadedIsWritten =
    (records₀ records : List Record) (file tables₀ tables file₀ written : List ℕ) (words₀ words place number' place' : ℕ)
    → Bytes file
    → RecordsCall file records₀ tables₀ 0 place records tables
    → length file ≤ length file₀
    → WriteCall records tables file₀ words₀ number' place' written words
    → Rewritten file file₀ number' written words
