-- The theorem: what the writer writes, the reader accepts and takes back to the same records and tables. By induction on the records: each is read as
-- itself, and the end word ends the file.
-- Assumes nothing.
use mathlib.Core.Path.{◌≡◌, refl, sym, ap, subst, ◌∙◌}
use mathlib.Core.Bool.{false, true≢false}
use mathlib.Core.List.{List, [], ◌∷◌, ◌++◌, zip_with, append-nil, append_assoc}
use Prim.Native.Nat.{ℕ, suc, ◌*◌, ◌-◌}
use native.Mathlib.Omega.{arith}
use lib.ListN.{length}
use borrow.Author.Tests.{le-leb}
use Rattle.lists.specs.Blocks.{blocks}
use Rattle.checks.specs.declared.Refusal.{Refusal}
use Rattle.words.specs.Encode.{word_of, file_of}
use Rattle.words.specs.Fits.{Fits}
use Rattle.words.specs.declared.gate.Wire.{Wire}
use Rattle.words.specs.declared.gate.Due.{Due}
use Rattle.words.specs.declared.gate.Step.{Step}
use Rattle.words.specs.declared.gate.Step.TheVariants.{Ends}
use Rattle.words.specs.declared.item.Item.{Item}
use Rattle.words.specs.declared.item.Item.TheVariants.{End}
use Rattle.circuit.specs.File.{Read, accepted, words_in, named_before, ended, after, read_from, read_file}
use Rattle.circuit.proofs.More.{length_more}
use Rattle.writer.specs.declared.entry.Record.{Record}
use Rattle.writer.specs.Says.{Speech, items, speech_of}
use Rattle.writer.specs.Listed.{records_of, tables_of}
use Rattle.writer.specs.Written.{Draft, Drafted, stopped, drafted, blank, leaving, laid, laid_all, whole, recorded, Written, refused, wrote, all_taken, closed, onward, write_from, write_records}
use Rattle.writer.specs.Call.{records_read, tables_read}
use Rattle.editor.specs.Promise.{ReadBack, WrittenIsRead}
use Rattle.words.proofs.Files.{length-file}
use Rattle.words.proofs.Judged.{Judged, judging}
use Rattle.editor.proofs.ForwardsDrafts.{Begins, begins_same, begins_trans, begins_front, words-after, tables_after, laid_begins, only_one, record_begins, Laid, laid_record}
use Rattle.editor.proofs.ForwardsStep.{InStep, is_refused, not-refused, turned, begun}
use Rattle.editor.proofs.ForwardsRecords.{Spoken, speaking}
use Rattle.editor.proofs.ForwardsListed.{records_before}
use Rattle.editor.proofs.ForwardsTaken.{Carried, alone_taken, select_taken}
use Rattle.editor.proofs.ForwardsProject.{project_taken}

-- ---- one record

module _ {all : List ℕ} {d e : Draft} {done : List Record} {tables : List ℕ} (c : Carried all d done tables) (b : Begins e.words all) where
  by-kind :
      {r : Record} {says : List Item} {left : List ℕ}
      → Spoken d.moduli d.tables r (items says left)
      → laid_all (leaving d left) says ≡ drafted e
      → whole e e.due ≡ drafted e
      → Carried all e (done ++ (r ∷ [])) tables
  by-kind (Spoken.alone {x} only) h w = alone_taken c b only (only_one d x h)
  by-kind (Spoken.project {modulus} {a}) h w = project_taken c b modulus a h w
  by-kind (Spoken.select {bit} {a = m} {b = n}) h w = select_taken c b bit m n h

  taken : (r : Record) → recorded d r ≡ drafted e → Carried all e (done ++ (r ∷ [])) tables
  taken r h =
      let l : Laid d (speech_of d.moduli d.tables r) e = laid_record d _ h in
      by-kind (subst (λ (s : Speech). Spoken d.moduli d.tables r s) l.said (speaking d.moduli d.tables r)) l.all l.whole

-- ---- what was written, record by record

never : {A : Type 0} {reason : Refusal} {place : ℕ} {words : List ℕ} → refused reason place ≡ wrote words → A
never e = let z : ◌≡◌ {A = ℕ} 0 1 = cc in absurd (omega arith)

abbrev words_is : Written → List ℕ
words_is (refused reason place) = []
words_is (wrote words) = words

record Next (m : Drafted) (next : Draft → Written) (words : List ℕ) : Type 0 where
  draft : Draft
  is : m ≡ drafted draft
  then : next draft ≡ wrote words

next_record : (m : Drafted) (next : Draft → Written) (place : ℕ) {words : List ℕ} → onward next place m ≡ wrote words → Next m next words
unfolding onward
next_record (stopped reason) next place h = never h
next_record (drafted d) next place h = record { draft = d; is = refl; then = h }

record Last (m : Drafted) (words : List ℕ) : Type 0 where
  draft : Draft
  is : m ≡ drafted draft
  none : draft.tables ≡ []
  all : draft.words ≡ words

none_left : (d : Draft) (place : ℕ) (tables : List ℕ) {words : List ℕ} → d.tables ≡ tables → all_taken place tables d.words ≡ wrote words → Last (drafted d) words
unfolding all_taken
none_left d place [] e h = record { draft = d; is = refl; none = e; all = ap words_is h }
none_left d place (image ∷ images) e h = never h

last_word : (m : Drafted) (place : ℕ) {words : List ℕ} → closed place m ≡ wrote words → Last m words
unfolding closed
last_word (stopped reason) place h = never h
last_word (drafted d) place h = none_left d place d.tables refl h

-- the words of a draft are the first that are written
written_begins : (records : List Record) (place : ℕ) (d : Draft) {words : List ℕ} → write_from place records d ≡ wrote words → Begins d.words words
unfolding write_from
written_begins [] place d {words} h =
    let l : Last (laid d End) words = last_word _ place h in
    begins_front d.words (word_of End) (subst (λ (ws : List ℕ). Begins (d.words ++ (word_of End ∷ [])) ws) l.all (laid_begins d End l.is))
written_begins (r ∷ records) place d {words} h =
    let n : Next (recorded d r) (write_from (suc place) records) words = next_record _ _ place h in
    begins_trans (record_begins d _ n.is) (written_begins records (suc place) n.draft n.then)

-- ---- the end

end_did : {moduli : List ℕ} {given at : ℕ} {due : Due} {s : Step} → Judged moduli given at due End s → is_refused s ≡ false → s ≡ Ends
end_did Judged.refused h = absurd (true≢false h)
end_did (Judged.end here) h = refl

-- nothing stands behind the end word
ends :
    (next : Due → List Wire → List ℕ → Read) (file : List ℕ) (at : ℕ) (wires : List Wire) (outputs : List ℕ) {s : Step} {read : Read}
    → s ≡ Ends
    → length file ≡ 4 * suc at
    → after next file at wires outputs s ≡ read
    → read ≡ accepted wires outputs (named_before file at (length outputs))
unfolding after ended
ends next file at wires outputs {read = read} e l h =
    sym (rw (e, le-leb (length file) (4 * suc at) (omega arith)) at h)

finished :
    {all : List ℕ} {d e : Draft} {wires : List Wire} {outputs : List ℕ}
    → InStep all d wires outputs
    → laid d End ≡ drafted e
    → e.words ≡ all
    → read_file (file_of all) ≡ accepted wires outputs (named_before (file_of all) (length d.words) (length outputs))
finished {all} {d} {e} {wires} {outputs} p h a =
    let w : d.words ++ (word_of End ∷ []) ≡ all = words-after d End _ h ∙ a in
    ends (read_from (file_of all) (words_in (file_of all) - suc (length d.words)) (suc (length d.words))) (file_of all) (length d.words) wires outputs
    (end_did (judging d.moduli d.given (length d.words) d.due End) (not-refused d End _ h))
    (omega (arith, length-file all, ap (length {A = ℕ}) w, length_more d.words (word_of End)))
    (turned p Fits.end (subst (λ (ws : List ℕ). Begins (d.words ++ (word_of End ∷ [])) ws) w (begins_same (d.words ++ (word_of End ∷ [])))))

-- ---- the theorem

read_back :
    {records : List Record} {tables words : List ℕ} (wires : List Wire) (outputs names : List ℕ)
    → read_file (file_of words) ≡ accepted wires outputs names
    → records_of wires outputs names ≡ records
    → tables_of (file_of words) wires ≡ tables
    → ReadBack records tables words
unfolding records_read tables_read
read_back {words = words} wires outputs names e f g =
    record {
      accepted = ap (λ (r : Read). r.answer) e;
      records_are = ap (λ (r : Read). records_of r.wires r.outputs r.named) e ∙ f;
      tables_are = ap (λ (r : Read). tables_of (file_of words) r.wires) e ∙ g;
    }

from :
    (records : List Record) (place : ℕ) (d : Draft) {done : List Record} {tables words : List ℕ}
    → Carried words d done tables
    → write_from place records d ≡ wrote words
    → ReadBack (done ++ records) tables words
unfolding write_from
from [] place d {done} {tables} {words} c h =
    let l : Last (laid d End) words = last_word _ place h in
    read_back c.wires c.outputs _ (finished c.in_step l.is l.all) (c.records_are ∙ sym (append-nil done))
    (sym (append-nil (tables_of (file_of words) c.wires))
    ∙ ap (λ (ts : List ℕ). tables_of (file_of words) c.wires ++ ts) (sym (tables_after d End _ l.is ∙ l.none))
    ∙ c.tables_are)
from (r ∷ records) place d {done} {tables} {words} c h =
    let n : Next (recorded d r) (write_from (suc place) records) words = next_record _ _ place h in
    subst (λ (rs : List Record). ReadBack rs tables words) (append_assoc done (r ∷ []) records)
    (from records (suc place) n.draft (taken c (written_begins records (suc place) n.draft n.then) r n.is) n.then)

-- no wire, no table
none_read : (file tables : List ℕ) → tables_of file [] ++ tables ≡ tables
unfolding blocks
none_read file tables = refl

-- .. and no output, which could name anybody
none-listed : (file : List ℕ) (at : ℕ) → records_before file at [] [] ≡ []
unfolding zip_with
none-listed file at = refl

pub written_is_read : WrittenIsRead
unfolding write_records
written_is_read records tables words h =
    from records 0 (blank tables)
    (record {
      wires = [];
      outputs = [];
      in_step = begun words tables (written_begins records 0 (blank tables) h);
      records_are = none-listed (file_of words) (length (blank tables).words);
      tables_are = none_read (file_of words) tables;
    })
    h
