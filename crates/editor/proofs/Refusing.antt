-- The theorem: where the writer refuses an item, the reader refuses its word, at its index and for the same reason. The reader runs in step with the writer up
-- to the item, and there reads its word as the item was judged.
-- Assumes nothing.
use mathlib.Core.Path.{◌≡◌, refl, sym, ap, subst, ◌∙◌}
use mathlib.Core.List.{List, [], ◌∷◌, ◌++◌, append-nil, append_assoc}
use Prim.Native.Nat.{ℕ, suc, ◌-◌}
use native.Mathlib.Omega.{arith}
use lib.ListN.{length}
use lib.Seq.{take-append_seam, drop-append_seam}
use Rattle.checks.specs.declared.Refusal.{Refusal}
use Rattle.words.specs.Encode.{word_of, file_of}
use Rattle.words.specs.Fits.{Fits}
use Rattle.words.specs.declared.gate.Due.{Due}
use Rattle.words.specs.declared.gate.Wire.{Wire}
use Rattle.words.specs.declared.gate.Step.{Step}
use Rattle.words.specs.declared.item.Item.{Item}
use Rattle.words.specs.declared.item.Item.TheVariants.{End}
use Rattle.circuit.specs.File.{Read, words_in, after, read_from, read_file}
use Rattle.circuit.proofs.More.{length_more}
use Rattle.writer.specs.declared.entry.Record.{Record}
use Rattle.writer.specs.Says.{Speech, items, speech_of}
use Rattle.writer.specs.Written.{Draft, Drafted, stopped, drafted, blank, leaving, laid, recorded, Written, refused, wrote, all_taken, closed, onward, write_from, write_records}
use Rattle.editor.specs.Promise.{drafted_to, Before, Reached, RefusedSo, RefusedIsRefused}
use Rattle.editor.proofs.ForwardsDrafts.{Begins, begins_trans, begins_front, tables_after, all_begins}
use Rattle.editor.proofs.ForwardsStep.{turned}
use Rattle.editor.proofs.ForwardsRecords.{AllSayable}
use Rattle.editor.proofs.RefusingRun.{Follows, follows_leaving, follows_items, says_sayable, follows_all, drafted_more}
use Rattle.editor.proofs.RefusingStops.{stopped_item, Stopped, Stops, stopped_record}
use Rattle.checks.specs.Answer.{refuses}

-- ---- the reader at an item that is refused

reads_refused :
    (next : Due → List Wire → List ℕ → Read) (file : List ℕ) (at : ℕ) (wires : List Wire) (outputs : List ℕ) {s : Step} {reason : Refusal} {read : Read}
    → s ≡ Step.Refused reason
    → after next file at wires outputs s ≡ read
    → read.answer ≡ refuses reason at
unfolding after
reads_refused next file at wires outputs e h = ap (λ (r : Read). r.answer) (sym (rw e at h))

module _ (d : Draft) (x : Item) (rest : List ℕ) where
  -- a file with the words so far and the item's word, and what follows
  goes_on : Begins (d.words ++ (word_of x ∷ [])) (d.words ++ (word_of x ∷ rest))
  goes_on = record { rest = rest; is = sym (append_assoc d.words (word_of x ∷ []) rest) }

  refused_there :
      {reason : Refusal}
      → Follows (d.words ++ (word_of x ∷ rest)) d
      → Fits x
      → laid d x ≡ stopped reason
      → (read_file (file_of (d.words ++ (word_of x ∷ rest)))).answer ≡ refuses reason (length d.words)
  refused_there p f h =
      reads_refused
      (read_from (file_of (d.words ++ (word_of x ∷ rest))) (words_in (file_of (d.words ++ (word_of x ∷ rest))) - suc (length d.words)) (suc (length d.words)))
      (file_of (d.words ++ (word_of x ∷ rest))) (length d.words) p.wires p.outputs
      (stopped_item d x _ h) (turned p.in_step f goes_on)

-- the items before
sayable_front : (before later : List Item) → AllSayable (before ++ later) → AllSayable before
sayable_front [] later on = AllSayable.none
sayable_front (x ∷ before) later (AllSayable.more n on) = AllSayable.more n (sayable_front before later on)

-- ---- what writing refused

not_wrote : {A : Type 0} {reason : Refusal} {place : ℕ} {words : List ℕ} → wrote words ≡ refused reason place → A
not_wrote e = let z : ◌≡◌ {A = ℕ} 0 1 = cc in absurd (omega arith)

abbrev refusal_of : Refusal → Written → Refusal
refusal_of other (refused reason place) = reason
refusal_of other (wrote words) = other

abbrev place_of : Written → ℕ
place_of (refused reason place) = place
place_of (wrote words) = 0

same-refusal : {reason other : Refusal} {place there : ℕ} → refused reason place ≡ refused other there → reason ≡ other
same-refusal {reason} e = ap (refusal_of reason) e

same_place : {reason other : Refusal} {place there : ℕ} → refused reason place ≡ refused other there → place ≡ there
same_place e = ap place_of e

-- ---- the records so far, and the others

placed : {records : List Record} {tables : List ℕ} {reason : Refusal} {place there : ℕ} → place ≡ there → RefusedSo records tables reason place → RefusedSo records tables reason there
placed {records} {tables} {reason} e r = subst (RefusedSo records tables reason) e r

module _ (tables : List ℕ) (taken : List Record) (d : Draft) (so_far : drafted_to taken (blank tables) ≡ drafted d) where
  -- behind the last record
  all-taken : length taken ≡ length (taken ++ [])
  all-taken = ap (length {A = Record}) (sym (append-nil taken))

  all_drafted : drafted_to (taken ++ []) (blank tables) ≡ drafted d
  all_drafted = ap (λ (rs : List Record). drafted_to rs (blank tables)) (append-nil taken) ∙ so_far

  at_end : {reason : Refusal} → laid d End ≡ stopped reason → RefusedSo (taken ++ []) tables reason (length taken)
  at_end h =
      RefusedSo.item
      (Reached.behind {d = d} all-taken all_drafted)
      (stopped_item d End _ h)
      (λ f rest. refused_there d End rest (follows_all taken tables so_far (begins_front d.words (word_of End) (goes_on d End rest))) f h)

  left_over :
      (place : ℕ) (entries words : List ℕ) {reason : Refusal} {there : ℕ}
      → place ≡ length taken
      → d.tables ≡ entries
      → all_taken place entries words ≡ refused reason there
      → RefusedSo (taken ++ []) tables reason there
  unfolding all_taken
  left_over place [] words e t h = not_wrote h
  left_over place (image ∷ images) words e t h =
      placed (same_place h) (RefusedSo.over {d = d} (sym (same-refusal h)) (e ∙ all-taken) all_drafted t)

  at_last : (m : Drafted) (place : ℕ) {reason : Refusal} {there : ℕ}
      → place ≡ length taken
      → laid d End ≡ m
      → closed place m ≡ refused reason there
      → RefusedSo (taken ++ []) tables reason there
  unfolding closed
  at_last (stopped other) place e i h = placed (sym e ∙ same_place h) (at_end (i ∙ ap stopped (same-refusal h)))
  at_last (drafted f) place e i h = left_over place f.tables f.words e (tables_after d End _ i) h

  -- at a record
  module _ (r : Record) (others : List Record) where
    before_it : Before (taken ++ (r ∷ others)) tables (length taken) d r
    before_it =
        record {
          others = others;
          drafts = ap (λ (rs : List Record). drafted_to rs (blank tables)) (take-append_seam taken (r ∷ others)) ∙ so_far;
          here = drop-append_seam taken (r ∷ others);
        }

    at_item :
        {reason : Refusal} {says : List Item} {left : List ℕ}
        → speech_of d.moduli d.tables r ≡ items says left
        → Stopped (leaving d left) says reason
        → RefusedSo (taken ++ (r ∷ others)) tables reason (length taken)
    at_item {says = says} {left} e s =
        let said : speech_of d.moduli d.tables r ≡ items (s.before ++ (s.item ∷ s.later)) left = e ∙ ap (λ (xs : List Item). items xs left) s.parts in
        RefusedSo.item
        (Reached.inside s.before s.later before_it said s.reached)
        (stopped_item s.draft s.item _ s.stops)
        (λ f rest.
        let b : Begins s.draft.words (s.draft.words ++ (word_of s.item ∷ rest)) = begins_front s.draft.words (word_of s.item) (goes_on s.draft s.item rest) in
        let p : Follows (s.draft.words ++ (word_of s.item ∷ rest)) d =
        follows_all taken tables so_far (begins_trans (all_begins s.before (leaving d left) s.reached) b) in
        refused_there s.draft s.item rest
        (follows_items s.before (leaving d left) (sayable_front s.before (s.item ∷ s.later) (says_sayable d r said)) (follows_leaving left p) s.reached b)
        f s.stops)

    by_stop :
        {reason : Refusal} {s : Speech} → speech_of d.moduli d.tables r ≡ s → Stops d s reason → RefusedSo (taken ++ (r ∷ others)) tables reason (length taken)
    by_stop e (Stops.unknown u) = RefusedSo.unknown u before_it e
    by_stop e (Stops.item s) = at_item e s
    by_stop e (Stops.entries u l f) = RefusedSo.short u before_it e l f

    at_record : {reason : Refusal} → recorded d r ≡ stopped reason → RefusedSo (taken ++ (r ∷ others)) tables reason (length taken)
    at_record h = by_stop refl (stopped_record d (speech_of d.moduli d.tables r) h)

    -- .. or past it
    by_record :
        (m : Drafted) (place : ℕ) {reason : Refusal} {there : ℕ}
        → place ≡ length taken
        → recorded d r ≡ m
        → onward (write_from (suc place) others) place m ≡ refused reason there
        → ((f : Draft) → recorded d r ≡ drafted f → write_from (suc place) others f ≡ refused reason there → RefusedSo (taken ++ (r ∷ others)) tables reason there)
        → RefusedSo (taken ++ (r ∷ others)) tables reason there
    unfolding onward
    by_record (stopped other) place e i h past = placed (sym e ∙ same_place h) (at_record (i ∙ ap stopped (same-refusal h)))
    by_record (drafted f) place e i h past = past f i h

-- ---- the theorem

from :
    (records : List Record) (tables : List ℕ) (taken : List Record) (d : Draft) (place : ℕ) {reason : Refusal} {there : ℕ}
    → drafted_to taken (blank tables) ≡ drafted d
    → place ≡ length taken
    → write_from place records d ≡ refused reason there
    → RefusedSo (taken ++ records) tables reason there
unfolding write_from
from [] tables taken d place so_far e h = at_last tables taken d so_far (laid d End) place e refl h
from (r ∷ records) tables taken d place {reason} {there} so_far e h =
    by_record tables taken d so_far r records (recorded d r) place e refl h
    (λ f i k.
    subst (λ (rs : List Record). RefusedSo rs tables reason there) (append_assoc taken (r ∷ []) records)
    (from records tables (taken ++ (r ∷ [])) f (suc place) (drafted_more taken (blank tables) r so_far i) (ap suc e ∙ sym (length_more taken r)) k))

pub refused_is_refused : RefusedIsRefused
unfolding write_records drafted_to
refused_is_refused records tables reason place h = from records tables [] (blank tables) 0 refl refl h
