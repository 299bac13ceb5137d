-- An item on the desk and in the draft: where the desk holds the draft, it holds what the item makes of it, or both refuse it.
-- Assumes nothing.
use mathlib.Core.Path.{◌≡◌, refl, sym, ap, subst, ◌∙◌}
use mathlib.Core.Bool.{Bool}
use mathlib.Core.List.{List, [], ◌∷◌, ◌++◌}
use Prim.Native.Nat.{ℕ, ◌+◌, ◌≤◌, ◌<◌}
use native.Mathlib.Numerals.{add-one}
use native.Mathlib.Omega.{arith}
use lib.ListN.{length, get_or, take, set, length-append, length-set, get_or-append}
use lib.Seq.{length-take-le, take-suc-set, get_or-append_seam}
use Rattle.checks.specs.declared.Refusal.{Refusal}
use Rattle.words.specs.declared.gate.Due.{Due}
use Rattle.words.specs.declared.gate.Step.{Step}
use Rattle.words.specs.declared.gate.Step.TheVariants.{Makes, Goes, Gives, Ends}
use Rattle.words.specs.declared.item.Item.{Item}
use Rattle.words.specs.Items.{judged}
use Rattle.words.specs.Encode.{word_of}
use Rattle.words.specs.Fits.{Fits}
use Rattle.words.specs.Cut.{cut_word}
use Rattle.words.proofs.Fitting.{cut_fits}
use Rattle.words.proofs.Judged.{Judged, judging}
use Rattle.circuit.proofs.More.{each}
use Rattle.writer.specs.Written.{Draft, Drafted, stopped, drafted, after_item, laid}
use Rattle.writer.specs.Desk.{Desk, desk, stop, desk_after, item_on, lay_item}
use Rattle.writer.specs.Walked.{Holds}
use Rattle.writer.proofs.HoldingFiles.{Kept, kept_more}
use Rattle.writer.proofs.HoldingFacts.{DueNext, Made, Gone, parties_in, made_so, made-next, gone_so, given_so, ended_so, no_branches, not-outputs, not_table}

-- the desk holds what was drafted, or the pen was put down for the same reason at a place
pub data Comes (lay : Bool) (before : List ℕ) (place : ℕ) (k : Desk) (k' : Desk) : Drafted → Type 0 where
  held : {d : Draft} → Holds lay before k' d → Comes lay before place k k' (drafted d)
  put_down : {reason : Refusal} → k' ≡ desk (stop k.pen reason place) k.moduli k.file → Comes lay before place k k' (stopped reason)

module _ {lay : Bool} {before : List ℕ} {k : Desk} {d : Draft} (h : Holds lay before k d) where
  -- the wires made
  pub made-is : length d.moduli ≡ k.pen.made
  made-is = sym (ap length h.moduli) ∙ length-take-le k.pen.made k.moduli (omega (arith, h.steady.room, h.steady.made))

  few : length d.moduli ≤ 1024
  few = omega (arith, made-is, h.steady.made)

  due_next : DueNext d.moduli d.due
  due_next =
      record {
        choosing = λ bit e. subst (λ (n : ℕ). n < 1024) (sym made-is) (h.steady.choosing bit (h.due ∙ e));
        entries = h.sound.entries;
      }

  pub file-kept : Kept lay before k.file d.words
  file-kept = record { size = h.size; kept = h.kept; laid = h.laid }

  -- the item's word, where its fields fit
  file_more : {x : Item} → Fits x → Kept lay before (desk_after lay 0 (cut_word x) k Ends).file (d.words ++ (word_of x ∷ []))
  file_more {x} f =
      subst (λ (w : ℕ). Kept lay before (desk_after lay 0 (cut_word x) k Ends).file (d.words ++ (w ∷ []))) (cut_fits f) (kept_more lay (cut_word x) file-kept h.at)

  at_more : (w : ℕ) → k.pen.at + 1 ≡ length (d.words ++ (w ∷ []))
  at_more w = omega (arith, h.at, length-append d.words (w ∷ []))

  module _ (place : ℕ) (x : Item) (byte : parties_in x < 256) where
    same : judged (take k.pen.made k.moduli) k.pen.given k.pen.at k.pen.due x ≡ judged d.moduli d.given (length d.words) d.due x
    same =
        ap (λ (ms : List ℕ). judged ms k.pen.given k.pen.at k.pen.due x) h.moduli
        ∙ ap (λ (g : ℕ). judged d.moduli g k.pen.at k.pen.due x) h.given
        ∙ ap (λ (n : ℕ). judged d.moduli d.given n k.pen.due x) h.at
        ∙ ap (λ (due : Due). judged d.moduli d.given (length d.words) due x) h.due

    comes : (s : Step) → Judged d.moduli d.given (length d.words) d.due x s → Comes lay before place k (desk_after lay place (cut_word x) k s) (after_item d x s)
    unfolding after_item
    comes (Step.Refused reason) j = put_down refl
    comes (Makes wire due) j =
        let m : Made d.moduli x wire due = made_so d.moduli few h.sound.byte h.sound.positive due_next j in
        let room : k.pen.made < 1024 = omega (arith, m.room, made-is) in
        let front : take (k.pen.made + 1) (set k.moduli k.pen.made wire.modulus) ≡ d.moduli ++ (wire.modulus ∷ []) =
        ap (λ (n : ℕ). take n (set k.moduli k.pen.made wire.modulus)) (add-one k.pen.made)
        ∙ take-suc-set k.moduli k.pen.made wire.modulus (omega (arith, h.steady.room, room))
        ∙ ap (λ (l : List ℕ). l ++ (wire.modulus ∷ [])) h.moduli in
        let file : Kept lay before (desk_after lay 0 (cut_word x) k Ends).file (d.words ++ (word_of x ∷ [])) = file_more m.fits in
        let next : DueNext d.moduli due = made-next m in
        held
        (record {
          answer = refl;
          steady =
              record {
                room = length-set k.moduli k.pen.made wire.modulus ∙ h.steady.room;
                made = omega (arith, room);
                given = h.steady.given;
                choosing = λ bit e. absurd (no_branches m bit e);
              };
          sound =
              record {
                byte =
                    each d.moduli wire.modulus (λ (w : ℕ). get_or (d.moduli ++ (wire.modulus ∷ [])) w 0 < 256)
                    (λ w l. rw (get_or-append d.moduli (wire.modulus ∷ []) 0 w l) (h.sound.byte w l))
                    (rw (get_or-append_seam d.moduli wire.modulus [] 0) m.byte);
                positive =
                    each d.moduli wire.modulus (λ (w : ℕ). 0 < get_or (d.moduli ++ (wire.modulus ∷ [])) w 0)
                    (λ w l. rw (get_or-append d.moduli (wire.modulus ∷ []) 0 w l) (h.sound.positive w l))
                    (rw (get_or-append_seam d.moduli wire.modulus [] 0) m.positive);
                entries = next.entries;
              };
          moduli = front;
          given = h.given;
          due = refl;
          at = at_more (word_of x);
          size = file.size;
          kept = file.kept;
          laid = file.laid;
        })
    comes (Goes due) j =
        let g : Gone d.moduli x due = gone_so d.moduli few h.sound.byte h.sound.positive due_next j in
        let file : Kept lay before (desk_after lay 0 (cut_word x) k Ends).file (d.words ++ (word_of x ∷ [])) = file_more g.fits in
        held
        (record {
          answer = refl;
          steady =
              record {
                room = h.steady.room;
                made = h.steady.made;
                given = h.steady.given;
                choosing = λ bit e. subst (λ (n : ℕ). n < 1024) made-is (g.next.choosing bit e);
              };
          sound = record { byte = h.sound.byte; positive = h.sound.positive; entries = g.next.entries };
          moduli = h.moduli;
          given = h.given;
          due = refl;
          at = at_more (word_of x);
          size = file.size;
          kept = file.kept;
          laid = file.laid;
        })
    comes (Gives wire) j =
        let f : Fits x × (d.given < 256) = given_so d.moduli few h.sound.byte h.sound.positive byte j in
        let file : Kept lay before (desk_after lay 0 (cut_word x) k Ends).file (d.words ++ (word_of x ∷ [])) = file_more f.0 in
        held
        (record {
          answer = refl;
          steady =
              record {
                room = h.steady.room;
                made = h.steady.made;
                given = omega (arith, f.1, h.given);
                choosing = λ bit e. absurd (not-outputs e);
              };
          sound = record { byte = h.sound.byte; positive = h.sound.positive; entries = λ left modulus e. absurd (not_table e) };
          moduli = h.moduli;
          given = ap (λ (n : ℕ). n + 1) h.given ∙ add-one d.given;
          due = refl;
          at = at_more (word_of x);
          size = file.size;
          kept = file.kept;
          laid = file.laid;
        })
    comes Ends j =
        let file : Kept lay before (desk_after lay 0 (cut_word x) k Ends).file (d.words ++ (word_of x ∷ [])) = file_more (ended_so d.moduli few h.sound.byte h.sound.positive j) in
        held
        (record {
          answer = refl;
          steady = record { room = h.steady.room; made = h.steady.made; given = h.steady.given; choosing = h.steady.choosing };
          sound = record { byte = h.sound.byte; positive = h.sound.positive; entries = h.sound.entries };
          moduli = h.moduli;
          given = h.given;
          due = h.due;
          at = at_more (word_of x);
          size = file.size;
          kept = file.kept;
          laid = file.laid;
        })

    -- an item that is laid
    on_desk : lay_item lay place x k ≡ desk_after lay place (cut_word x) k (judged d.moduli d.given (length d.words) d.due x)
    unfolding item_on
    on_desk = ap (item_on lay place x k) h.answer ∙ ap (desk_after lay place (cut_word x) k) same

    pub held_item : Comes lay before place k (lay_item lay place x k) (laid d x)
    held_item =
        subst (λ (e : Desk). Comes lay before place k e (laid d x)) (sym on_desk)
        (comes (judged d.moduli d.given (length d.words) d.due x) (judging d.moduli d.given (length d.words) d.due x))
