-- After the last record: what the two walks and the end of the file come to is what the call that writes promises.
-- Assumes nothing.
use mathlib.Core.Path.{◌≡◌, refl, sym, ap, subst, ◌∙◌}
use mathlib.Core.Bool.{Bool, true, false}
use mathlib.Core.List.{List, [], ◌∷◌, ◌++◌}
use Prim.Native.Nat.{ℕ, ◌+◌, ◌*◌, ◌≤◌}
use native.Mathlib.Omega.{arith}
use lib.Dec.{leb, ltb}
use lib.ListN.{length, drop, length-append, length-drop}
use lib.Seq.{drop-length}
use borrow.Author.Tests.{leb-true, le-leb, lt-leb}
use Rattle.checks.specs.declared.Refusal.{Refusal}
use Rattle.checks.specs.declared.Refusal.TheVariants.{NotDue, NoOutput, WrongLength, TooShort}
use Rattle.checks.specs.Answer.{accepts, refuses}
use Rattle.checks.proofs.Answers.{afterwards-refused, unless-refused, and_then_stop, and_then-next, told}
use Rattle.checks.proofs.Passed.{and_then_passed, unless_passed, afterwards_passed}
use Rattle.words.specs.declared.gate.Due.{Due}
use Rattle.words.specs.declared.gate.Step.TheVariants.{Ends}
use Rattle.words.specs.declared.item.Item.TheVariants.{End}
use Rattle.words.specs.Items.{check, end_due}
use Rattle.words.specs.Encode.{word_of}
use Rattle.writer.specs.declared.entry.Record.{Record}
use Rattle.writer.specs.declared.pen.Pen.{Pen}
use Rattle.writer.specs.Written.{Draft, after_item, laid, Written, refused, wrote, all_taken, closed, write_from, write_records}
use Rattle.writer.specs.Call.{file_with, answer_of, words_of, words_written, write_checked, WriteCall}
use Rattle.writer.specs.Desk.{put_word}
use Rattle.writer.specs.Walked.{Between, Walked}
use Rattle.writer.specs.Settling.{Fair, room_for, all_taken_by, some_given_by, settled_from, Settles}
use Rattle.writer.specs.Closing.{Writes, Finished, Tells}
use Rattle.writer.proofs.HoldingFiles.{put_front}
use Rattle.writer.proofs.Walks.{ready}
use Rattle.std.specs.Prelude.{Result, Ok, Err}
use Rattle.checks.specs.declared.Refused.{Refused}

-- what the end comes to: 9, entries left over, or the words
unfoldable outcome : Bool → ℕ → List ℕ → List ℕ → Written
outcome false place left words = refused NoOutput place
outcome true place left words = all_taken place left words

ending : (place : ℕ) (d : Draft) (some : Bool) → closed place (after_item d End (check some NoOutput Ends)) ≡ outcome some place d.tables (d.words ++ (word_of End ∷ []))
unfolding closed after_item check outcome
ending place d true = refl
ending place d false = refl

-- where words come out they are the draft's
ended-words : (some : Bool) (place : ℕ) (left words : List ℕ) {all : List ℕ} → outcome some place left words ≡ wrote all → words ≡ all
unfolding outcome all_taken
ended-words false place left words e = let z : ◌≡◌ {A = ℕ} 0 1 = cc in absurd (omega arith)
ended-words true place [] words e = cc
ended-words true place (image ∷ images) words e = let z : ◌≡◌ {A = ℕ} 0 1 = cc in absurd (omega arith)

-- between two records the end is due
end-due : {due : Due} → Between due → end_due due ≡ true
end-due Between.inputs = refl
end-due Between.gates = refl
end-due Between.outputs = refl

last : (d : Draft) → Between d.due → laid d End ≡ after_item d End (check (ltb 0 d.given) NoOutput Ends)
unfolding check
last d b = ap (λ (due : Bool). after_item d End (check due NotDue (check (ltb 0 d.given) NoOutput Ends))) (end-due b)

-- what all records come to, by the draft after the last
all_come : (records : List Record) (tables : List ℕ) (d : Draft) → Between d.due → write_from (length records) (drop (length records) records) d ≡ write_records records tables
    → write_records records tables ≡ outcome (ltb 0 d.given) (length records) d.tables (d.words ++ (word_of End ∷ []))
unfolding write_from
all_come records tables d b e =
    sym e
    ∙ ap (λ (rs : List Record). write_from (length records) rs d) (drop-length records)
    ∙ ap (closed (length records)) (last d b)
    ∙ ending (length records) d (ltb 0 d.given)

module _ {records : List Record} {tables before : List ℕ} {lay : Bool} {pen : Pen} {moduli file : List ℕ} where
  pub fair : Walked lay tables before records (length records) pen moduli file → Fair pen
  fair w = let r = ready w in record { made = r.steady.made; given = r.steady.given; at = omega (arith, r.near, r.steady.made, r.steady.given) }

  kept_file : Walked lay tables before records (length records) pen moduli file → lay ≡ false → file ≡ before
  kept_file (Walked.goes d h between near here ahead rest) e = h.kept e
  kept_file (Walked.stops answer so r kept) e = kept e

-- the call's checks, by what the records come to
module _ (records : List Record) (tables : List ℕ) (size : ℕ) where
  checks_refused : {reason : Refusal} {place : ℕ} → write_records records tables ≡ refused reason place → refuses reason place ≡ write_checked records tables size
  unfolding write_checked answer_of
  checks_refused e = and_then_stop _ (ap answer_of e)

  words_are : {ws : List ℕ} → write_records records tables ≡ wrote ws → words_written records tables ≡ ws
  unfolding words_written words_of
  words_are e = ap words_of e

  checks_short : {ws : List ℕ} → write_records records tables ≡ wrote ws → leb (4 * length ws) size ≡ false → refuses TooShort 0 ≡ write_checked records tables size
  unfolding write_checked answer_of
  checks_short e f =
      sym (and_then-next _ (ap answer_of e) ∙ unless-refused TooShort 0 (ap (λ (l : List ℕ). leb (4 * length l) size) (words_are e) ∙ f))

  checks_met : {ws : List ℕ} → write_records records tables ≡ wrote ws → leb (4 * length ws) size ≡ true → accepts ≡ write_checked records tables size
  unfolding write_checked answer_of
  checks_met e f =
      sym (and_then_passed (ap answer_of e) (unless_passed TooShort 0 (ap (λ (l : List ℕ). leb (4 * length l) size) (words_are e) ∙ f)))

-- what the records that were judged and what was settled of them come to: the call's checks refuse, or so many words come out, for which there is room
data Comes (records : List Record) (tables : List ℕ) (size : ℕ) : Result ℕ Refused → Type 0 where
  refusing : {why : Refused} → Err why ≡ write_checked records tables size → Comes records tables size (Err why)
  writing :
      {n : ℕ} (ws : List ℕ)
      → write_records records tables ≡ wrote (ws ++ (word_of End ∷ []))
      → n ≡ length (ws ++ (word_of End ∷ []))
      → leb (4 * length (ws ++ (word_of End ∷ []))) size ≡ true
      → Comes records tables size (Ok n)

-- .. by the room in the file, by what is left of the tables, and by whether an output was given
module _ {records : List Record} {tables : List ℕ} {size : ℕ} (judged : Pen) where
  by_room : (ws : List ℕ) → length ws ≡ judged.at → write_records records tables ≡ wrote (ws ++ (word_of End ∷ []))
      → (room : Bool) → leb (4 * (judged.at + 1)) size ≡ room → Comes records tables size (room_for judged room)
  unfolding room_for
  by_room ws at e true room =
      let long : length (ws ++ (word_of End ∷ [])) ≡ judged.at + 1 = length-append ws (word_of End ∷ []) ∙ ap (λ (n : ℕ). n + 1) at in
      Comes.writing ws e (sym long) (ap (λ (n : ℕ). leb (4 * n) size) long ∙ room)
  by_room ws at e false room =
      let long : length (ws ++ (word_of End ∷ [])) ≡ judged.at + 1 = length-append ws (word_of End ∷ []) ∙ ap (λ (n : ℕ). n + 1) at in
      Comes.refusing (checks_short records tables size e (ap (λ (n : ℕ). leb (4 * n) size) long ∙ room))

  by_left : (ws left : List ℕ) → length ws ≡ judged.at → drop judged.taken tables ≡ left → length records ≡ judged.made + judged.given
      → write_records records tables ≡ all_taken (length records) left (ws ++ (word_of End ∷ []))
      → Comes records tables size (all_taken_by judged size (leb (length tables) judged.taken))
  unfolding all_taken all_taken_by
  by_left ws [] at d here e =
      subst (λ (b : Bool). Comes records tables size (all_taken_by judged size b))
      (sym (le-leb (length tables) judged.taken (omega (arith, ap (length {A = ℕ}) d, length-drop judged.taken tables))))
      (by_room ws at e (leb (4 * (judged.at + 1)) size) refl)
  by_left ws (image ∷ images) at d here e =
      subst (λ (b : Bool). Comes records tables size (all_taken_by judged size b))
      (sym (lt-leb (length tables) judged.taken (omega (arith, ap (length {A = ℕ}) d, length-drop judged.taken tables))))
      (Comes.refusing (ap (refuses WrongLength) (sym here) ∙ checks_refused records tables size e))

  by_some : (ws : List ℕ) → length ws ≡ judged.at → length records ≡ judged.made + judged.given → (some : Bool)
      → write_records records tables ≡ outcome some (length records) (drop judged.taken tables) (ws ++ (word_of End ∷ []))
      → Comes records tables size (some_given_by judged (length tables) size some)
  unfolding outcome some_given_by
  by_some ws at here true e = by_left ws (drop judged.taken tables) at refl here e
  by_some ws at here false e = Comes.refusing (ap (refuses NoOutput) (sym here) ∙ checks_refused records tables size e)

module _ {records : List Record} {tables file₀ file₁ : List ℕ} where
  -- refused: nothing was touched
  stopped_so : {why : Refused} → file₁ ≡ file₀ → Comes records tables (length file₀) (Err why) → Writes records tables file₀ (Err why) file₁
  stopped_so {why} same (Comes.refusing m) = record { answer = m; words_are = tt; file_is = same ∙ afterwards-refused (sym m) _ file₀ }

  -- accepted: the second walk has laid the words that the first has judged, and they stand at the front
  module _ (laid : Pen) (file₂ : List ℕ) {file : List ℕ} (same : file₁ ≡ file₀) (end : file ≡ put_word file₂ laid.at (word_of End)) where
    words_so : {n : ℕ} (ws : List ℕ) → write_records records tables ≡ wrote (ws ++ (word_of End ∷ [])) → n ≡ length (ws ++ (word_of End ∷ []))
        → leb (4 * length (ws ++ (word_of End ∷ []))) (length file₀) ≡ true → laid.at ≡ length ws → file₂ ≡ file_with ws file₁
        → Writes records tables file₀ (Ok n) file
    words_so {n} ws e long room at front =
        let all : List ℕ = ws ++ (word_of End ∷ []) in
        let m : accepts ≡ write_checked records tables (length file₀) = checks_met records tables (length file₀) e room in
        let words : words_written records tables ≡ all = words_are records tables (length file₀) e in
        record {
          answer = m;
          words_are = long ∙ ap length (sym words);
          file_is =
              end
              ∙ ap (λ (k : ℕ). put_word file₂ k (word_of End)) at
              ∙ ap (λ (l : List ℕ). put_word l (length ws) (word_of End)) (front ∙ ap (file_with ws) same)
              ∙ put_front ws file₀ (word_of End) (leb-true (4 * length all) (length file₀) room)
              ∙ ap (λ (l : List ℕ). file_with l file₀) (sym words)
              ∙ sym (afterwards_passed (sym m) _ file₀);
        }

    laid_so : {n : ℕ} {moduli₂ : List ℕ} → Comes records tables (length file₀) (Ok n) → Walked true tables file₁ records (length records) laid moduli₂ file₂
        → Writes records tables file₀ (Ok n) file
    laid_so (Comes.writing ws e long room) (Walked.stops answer so r kept) = let z : ◌≡◌ {A = ℕ} 0 1 = cc (so, e) in absurd (omega arith)
    laid_so (Comes.writing ws e long room) (Walked.goes d h between near here ahead rest) =
        let all : write_records records tables ≡ outcome (ltb 0 d.given) (length records) d.tables (d.words ++ (word_of End ∷ [])) =
        all_come records tables d between rest in
        let words : d.words ++ (word_of End ∷ []) ≡ ws ++ (word_of End ∷ []) = ended-words (ltb 0 d.given) (length records) d.tables _ (sym all ∙ e) in
        let fits : leb (4 * length (d.words ++ (word_of End ∷ []))) (length file₀) ≡ true =
        ap (λ (l : List ℕ). leb (4 * length l) (length file₀)) words ∙ room in
        let enough : 4 * length d.words ≤ length file₁ =
        omega (arith, leb-true (4 * length (d.words ++ (word_of End ∷ []))) (length file₀) fits, length-append d.words (word_of End ∷ []), ap length same) in
        words_so d.words (e ∙ ap wrote (sym words)) (long ∙ ap length (sym words)) fits h.at (h.laid refl enough)

module _ {records : List Record} {tables file₀ : List ℕ} {judged : Pen} {moduli₁ file₁ : List ℕ} where
  walked : {settled : Result ℕ Refused} → Walked false tables file₀ records (length records) judged moduli₁ file₁ → Settles judged (length tables) (length file₀) settled
      → Comes records tables (length file₀) settled
  unfolding settled_from
  walked (Walked.stops answer so r kept) s =
      subst (Comes records tables (length file₀)) (sym (s.settles ∙ ap (settled_from judged (length tables) (length file₀)) answer))
      (Comes.refusing (checks_refused records tables (length file₀) (sym so)))
  walked (Walked.goes d h between near here ahead rest) s =
      subst (Comes records tables (length file₀)) (sym (s.settles ∙ ap (settled_from judged (length tables) (length file₀)) h.answer))
      (by_some judged d.words (sym h.at) here (ltb 0 judged.given)
      (all_come records tables d between rest
      ∙ ap (λ (n : ℕ). outcome (ltb 0 n) (length records) d.tables (d.words ++ (word_of End ∷ []))) (sym h.given)
      ∙ ap (λ (l : List ℕ). outcome (ltb 0 judged.given) (length records) l (d.words ++ (word_of End ∷ []))) (sym ahead)))

  pub written : {settled : Result ℕ Refused} {file : List ℕ} → Walked false tables file₀ records (length records) judged moduli₁ file₁
      → Settles judged (length tables) (length file₀) settled → Finished records tables file₁ settled file → Writes records tables file₀ settled file
  written w s (Finished.laid {pen = pen} {file₂ = file₂} w₂ end) = laid_so pen file₂ (kept_file w refl) end (walked w s) w₂
  written w s (Finished.kept same) = stopped_so (same ∙ kept_file w refl) (walked w s)

-- .. and told, that is what the call promises, refused or not
pub told_call : {records : List Record} {tables file₀ file : List ℕ} {words₀ number place words : ℕ} (settled : Result ℕ Refused)
    → Writes records tables file₀ settled file → Tells settled words₀ number place words → WriteCall records tables file₀ words₀ number place file words
told_call {words₀ = words₀} (Ok n) k t =
    record {
      answer = told k.answer t.number_is t.place_is;
      file_is = k.file_is;
      words_is = t.words_is ∙ k.words_are ∙ sym (afterwards_passed (sym k.answer) _ words₀);
    }
told_call {words₀ = words₀} (Err why) k t =
    record {
      answer = told k.answer t.number_is t.place_is;
      file_is = k.file_is;
      words_is = t.words_is ∙ afterwards-refused (sym k.answer) _ words₀;
    }

pub writes : {records : List Record} {tables file₀ : List ℕ} {judged : Pen} {moduli₁ file₁ : List ℕ} {settled : Result ℕ Refused} {words₀ number place words : ℕ} {file : List ℕ}
    → Walked false tables file₀ records (length records) judged moduli₁ file₁ → Settles judged (length tables) (length file₀) settled
    → Finished records tables file₁ settled file → Tells settled words₀ number place words → WriteCall records tables file₀ words₀ number place file words
writes {settled = settled} w s f t = told_call settled (written w s f) t
