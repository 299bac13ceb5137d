-- The round trip over the two calls' promises: what is accepted by the one is accepted by the other, and nothing is lost on the way.
-- Assumes nothing.
use mathlib.Core.Path.{◌≡◌, refl, sym, ap, ap₂, subst, subst₂, ◌∙◌}
use mathlib.Core.Bool.{true}
use mathlib.Core.List.{List, [], ◌∷◌, ◌++◌}
use Prim.Native.Nat.{ℕ, ◌*◌, ◌≤◌}
use native.Mathlib.Omega.{arith}
use lib.Dec.{leb}
use lib.ListN.{length, take, drop}
use lib.Seq.{take_at}
use borrow.Author.Tests.{le-leb}
use Rattle.lists.specs.Blocks.{tab}
use Rattle.checks.specs.declared.Refusal.TheVariants.{TooShort}
use Rattle.checks.proofs.Numbers.{passed_zero, zero_passed}
use Rattle.checks.proofs.Passed.{and_then_passed, and_then-left, unless_passed, afterwards_passed}
use Rattle.words.specs.Bits.{word_at}
use Rattle.words.specs.Encode.{file_of}
use Rattle.words.proofs.Files.{length-file}
use Rattle.circuit.specs.File.{words_in, read_file}
use Rattle.session.proofs.Sessions.{lengths-passed}
use Rattle.writer.specs.declared.entry.Record.{Record}
use Rattle.writer.specs.Written.{Written, refused, wrote, write_records}
use Rattle.writer.specs.Call.{answer_of, words_of, words_written, write_checked, WriteCall, records_read, tables_read, records_checked, RecordsCall}
use Rattle.editor.specs.Promise.{ReadBack, WrittenBack}
use Rattle.editor.specs.Calls.{WrittenIsLoaded, Rewritten, LoadedIsWritten}
use Rattle.editor.proofs.Forwards.{written_is_read}
use Rattle.editor.proofs.Backwards.{read_is_written}
use Rattle.checks.specs.Answer.{accepts}

-- ---- checks that pass

-- where writing is accepted there are words
has_words : (w : Written) → answer_of w ≡ accepts → w ≡ wrote (words_of w)
unfolding answer_of words_of
has_words (wrote words) e = refl
has_words (refused reason place) e = let z : ◌≡◌ {A = ℕ} 0 1 = cc in absurd (omega arith)

module _ (records : List Record) (tables : List ℕ) (size : ℕ) where
  wrote_so : write_checked records tables size ≡ accepts → write_records records tables ≡ wrote (words_written records tables)
  unfolding write_checked words_written
  wrote_so e = has_words (write_records records tables) (and_then-left _ _ e)

  writes : {words : List ℕ} → write_records records tables ≡ wrote words → leb (4 * length (words_written records tables)) size ≡ true → write_checked records tables size ≡ accepts
  unfolding write_checked answer_of
  writes e room = and_then_passed (ap answer_of e) (unless_passed TooShort 0 room)

module _ (file : List ℕ) (count size : ℕ) where
  read_so : records_checked file count size ≡ accepts → (read_file file).answer ≡ accepts
  unfolding records_checked
  read_so e = and_then-left _ _ e

  loads : (read_file file).answer ≡ accepts → count ≡ length (records_read file) → size ≡ length (tables_read file) → records_checked file count size ≡ accepts
  unfolding records_checked
  loads e c s = and_then_passed e (lengths-passed (ap₂ (λ (m n : ℕ). m ∷ n ∷ []) c s))

-- ---- written and loaded

-- the words at the front of the buffer
front-words : (ws rest : List ℕ) → take (4 * length ws) (file_of ws ++ rest) ≡ file_of ws
front-words ws rest = take_at (file_of ws) rest (4 * length ws) (length-file ws)

pub written_is_loaded : WrittenIsLoaded
written_is_loaded records records₀ loaded tables tables₀ images file₀ file words₀ words place number' place' w same_records same_tables l =
    let ws : List ℕ = words_written records tables in
    let passes : write_checked records tables (length file₀) ≡ accepts = zero_passed w.answer refl in
    let back : ReadBack records tables ws = written_is_read records tables ws (wrote_so records tables (length file₀) passes) in
    let front : take (4 * words) file ≡ file_of ws =
    ap₂ (λ (n : ℕ) (f : List ℕ). take (4 * n) f) (w.words_is ∙ afterwards_passed passes _ _) (w.file_is ∙ afterwards_passed passes _ _)
    ∙ front-words ws (drop (4 * length ws) file₀) in
    let call : RecordsCall (file_of ws) records₀ tables₀ number' place' loaded images =
    subst (λ (f : List ℕ). RecordsCall f records₀ tables₀ number' place' loaded images) front l in
    let good : records_checked (file_of ws) (length records₀) (length tables₀) ≡ accepts =
    loads (file_of ws) (length records₀) (length tables₀) back.accepted (same_records ∙ ap (length {A = Record}) (sym back.records_are))
    (same_tables ∙ ap (length {A = ℕ}) (sym back.tables_are)) in
    record {
      accepted = passed_zero call.answer good;
      records_are = call.records_are ∙ afterwards_passed good _ _ ∙ back.records_are;
      tables_are = call.tables_are ∙ afterwards_passed good _ _ ∙ back.tables_are;
    }

-- ---- loaded and written

module _ (file file₀ written : List ℕ) {words₀ words number place : ℕ} (back : WrittenBack file) (room : length file ≤ length file₀)
    (w : WriteCall (records_read file) (tables_read file) file₀ words₀ number place written words) where
  abbrev ws : List ℕ
  ws = tab (words_in file) (word_at file)

  words_are : words_written (records_read file) (tables_read file) ≡ ws
  unfolding words_written words_of
  words_are = ap words_of back.words

  size_is : 4 * length (words_written (records_read file) (tables_read file)) ≡ length file
  size_is = ap (λ (l : List ℕ). 4 * length l) words_are ∙ sym (length-file ws) ∙ ap (length {A = ℕ}) back.bytes

  good : write_checked (records_read file) (tables_read file) (length file₀) ≡ accepts
  good = writes (records_read file) (tables_read file) (length file₀) back.words (le-leb (4 * length (words_written (records_read file) (tables_read file))) (length file₀) (omega (arith, size_is, room)))

  rewritten : Rewritten file file₀ number written words
  rewritten =
      record {
        accepted = passed_zero w.answer good;
        file_is =
            w.file_is ∙ afterwards_passed good _ _
            ∙ ap₂ (λ (l : List ℕ) (n : ℕ). file_of l ++ drop n file₀) words_are size_is
            ∙ ap (λ (l : List ℕ). l ++ drop (length file) file₀) back.bytes;
        words_are = ap (λ (n : ℕ). 4 * n) (w.words_is ∙ afterwards_passed good _ _) ∙ size_is;
      }

pub loaded_is_written : LoadedIsWritten
loaded_is_written records₀ records file tables₀ tables file₀ written words₀ words place number' place' bytes l room w =
    let passes : records_checked file (length records₀) (length tables₀) ≡ accepts = zero_passed l.answer refl in
    rewritten file file₀ written
    (read_is_written file bytes (read_so file (length records₀) (length tables₀) passes)) room
    (subst₂ (λ (rs : List Record) (ts : List ℕ). WriteCall rs ts file₀ words₀ number' place' written words)
    (l.records_are ∙ afterwards_passed passes _ _) (l.tables_are ∙ afterwards_passed passes _ _) w)
