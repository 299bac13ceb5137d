-- The walk along the records: before the first, what each may rely on, and one record more. `more` says that what the code does with a record is what the
-- definition does.
-- Assumes nothing.
use mathlib.Core.Path.{◌≡◌, refl, sym, ap, subst, ◌∙◌}
use mathlib.Core.Bool.{Bool, true, false}
use mathlib.Core.List.{List, [], ◌∷◌, ◌++◌, map}
use Prim.Native.Nat.{ℕ, suc, ◌+◌, ◌-◌, ◌*◌, ◌≤◌, ◌<◌, min}
use native.Mathlib.Nat.{not-suc-le-zero}
use native.Mathlib.Numerals.{add-one}
use native.Mathlib.Omega.{arith}
use lib.Dec.{leb, lit<}
use lib.ListN.{length, get_or, take, drop, length-take, length-drop, length-append}
use lib.Seq.{drop-cons, drop-drop}
use borrow.Author.Tests.{leb-true, leb-false}
use Rattle.checks.specs.declared.Refusal.{Refusal}
use Rattle.words.specs.declared.gate.Due.{Due}
use Rattle.words.specs.declared.gate.Due.TheVariants.{Inputs, Gates, Entries}
use Rattle.words.specs.declared.gate.Wire.{Wire}
use Rattle.words.specs.declared.gate.Step.{Step}
use Rattle.words.specs.declared.gate.Step.TheVariants.{Makes, Goes, Gives, Ends}
use Rattle.words.proofs.Judged.{Judged, judging}
use Rattle.words.specs.declared.item.Item.{Item}
use Rattle.words.specs.declared.item.Item.TheVariants.{Head, Project, Entry, Select}
use Rattle.words.specs.Cut.{cut_word}
use Rattle.words.specs.Items.{judged}
use Rattle.words.specs.Encode.{word_of, file_of}
use Rattle.writer.specs.declared.entry.Record.{Record}
use Rattle.writer.specs.declared.pen.Pen.{Pen}
use Rattle.writer.specs.declared.speech.Rest.{Rest}
use Rattle.writer.specs.declared.speech.Rest.TheVariants.{Alone, Table}
use Rattle.writer.specs.declared.speech.Said.{Said}
use Rattle.std.specs.Prelude.{Option, Some, None}
use Rattle.writer.specs.Says.{Speech, nothing, items}
use Rattle.writer.specs.Written.{Draft, Drafted, stopped, drafted, blank, leaving, after_item, laid, unless_stopped, laid_all, whole, said_to, recorded, onward, write_from, write_records}
use Rattle.writer.specs.Desk.{Desk, desk, stop, desk_after, item_on, lay_item, all_below, table_on, table_due, table_after, lay_table, Means, saying, rest_on, spoken_on, refuse}
use Rattle.writer.specs.Walked.{no_record, Steady, Ready, Begun, Stepped, Holds, Between, Walked}
use Rattle.writer.proofs.HoldingFiles.{Kept, kept_more}
use Rattle.writer.proofs.HoldingFacts.{parties_in, no_choice, not-inputs}
use Rattle.writer.proofs.Holding.{Comes, held, put_down, made-is, held_item}
use Rattle.writer.proofs.HoldingTables.{Tabled, full_table, put_down as table-down, held-table}
use Rattle.std.specs.Prelude.{Ok, Err}
use Rattle.checks.specs.declared.Refused.{Refused}
use Rattle.checks.specs.Answer.{Answer, refuses}

-- what a record leaves: a draft on the desk, one record further; or the pen put down at its place
pub data Leaves (lay : Bool) (tables before : List ℕ) (place : ℕ) (k : Desk) : Drafted → Type 0 where
  on :
      {d : Draft}
      → Holds lay before k d
      → Between d.due
      → k.pen.at ≤ 1 + 257 * (k.pen.made + k.pen.given)
      → suc place ≡ k.pen.made + k.pen.given
      → drop k.pen.taken tables ≡ d.tables
      → Leaves lay tables before place k (drafted d)
  off :
      {reason : Refusal}
      → k.pen.answer ≡ refuses reason place
      → Ready k.pen k.moduli
      → (lay ≡ false → k.file ≡ before)
      → Leaves lay tables before place k (stopped reason)

-- what one item that a record has alone does to the draft: one wire or output more, one word more, and what may come between two records is due
data Counts (d : Draft) : Drafted → Type 0 where
  none : {reason : Refusal} → Counts d (stopped reason)
  one :
      {e : Draft}
      → length e.moduli + e.given ≡ suc (length d.moduli + d.given)
      → length e.words ≡ suc (length d.words)
      → length d.moduli ≤ length e.moduli
      → d.given ≤ e.given
      → Between e.due
      → e.tables ≡ d.tables
      → Counts d (drafted e)

-- .. which it is where a wire is made or an output is given
module _ (d : Draft) (x : Item) where
  more_words : length (d.words ++ (word_of x ∷ [])) ≡ suc (length d.words)
  more_words = length-append d.words (word_of x ∷ []) ∙ add-one (length d.words)

  one_made : (wire : Wire) (due : Due) → Between due → Counts d (after_item d x (Makes wire due))
  unfolding after_item
  one_made wire due b =
      let l : length (d.moduli ++ (wire.modulus ∷ [])) ≡ length d.moduli + 1 = length-append d.moduli (wire.modulus ∷ []) in
      let sum : length (d.moduli ++ (wire.modulus ∷ [])) + d.given ≡ suc (length d.moduli + d.given) = omega (arith, l) in
      let more : length d.moduli ≤ length (d.moduli ++ (wire.modulus ∷ [])) = omega (arith, l) in
      let same : d.given ≤ d.given = omega arith in
      one sum more_words more same b refl

  one_given : (a : ℕ) → Counts d (after_item d x (Gives a))
  unfolding after_item
  one_given a =
      let sum : length d.moduli + suc d.given ≡ suc (length d.moduli + d.given) = omega arith in
      let same : length d.moduli ≤ length d.moduli = omega arith in
      let more : d.given ≤ suc d.given = omega arith in
      one sum more_words same more Between.outputs refl

  not_made : (reason : Refusal) → Counts d (after_item d x (Step.Refused reason))
  unfolding after_item
  not_made reason = none

counts : {ms ts : List ℕ} {x : Item} {speech : Speech} → Means ms ts (saying x Alone) speech → {d : Draft} {given at : ℕ} {due : Due} {s : Step} → Judged d.moduli given at due x s → Counts d (after_item d x s)
counts Means.input {d} (Judged.refused {reason = reason}) = not_made d _ reason
counts Means.input {d} (Judged.input room modulus owner) = one_made d _ _ Inputs Between.inputs
counts Means.add {d} (Judged.refused {reason = reason}) = not_made d _ reason
counts Means.add {d} (Judged.add room two) = one_made d _ _ Gates Between.gates
counts Means.scale {d} (Judged.refused {reason = reason}) = not_made d _ reason
counts Means.scale {d} (Judged.scale room a constant) = one_made d _ _ Gates Between.gates
counts Means.multiply {d} (Judged.refused {reason = reason}) = not_made d _ reason
counts Means.multiply {d} (Judged.multiply room two) = one_made d _ _ Gates Between.gates
counts (Means.output byte) {d} (Judged.refused {reason = reason}) = not_made d _ reason
counts (Means.output byte) {d} (Judged.output due a room) = one_given d _ _

-- .. and the parties that it names are a byte
byte-named : {ms ts : List ℕ} {x : Item} {speech : Speech} → Means ms ts (saying x Alone) speech → parties_in x < 256
byte-named Means.input = lit< tt
byte-named Means.add = lit< tt
byte-named Means.scale = lit< tt
byte-named Means.multiply = lit< tt
byte-named (Means.output byte) = byte

branches-count : {given at : ℕ} (e : Draft) {due : Due} {a b : ℕ} {s : Step} → Judged e.moduli given at due (Item.Branches a b) s → Counts e (after_item e (Item.Branches a b) s)
branches-count e (Judged.refused {reason = reason}) = not_made e _ reason
branches-count e (Judged.branches two) = one_made e _ _ Gates Between.gates

-- nothing of a table is missing between two records
whole-between : (e : Draft) {due : Due} → Between due → whole e due ≡ drafted e
unfolding whole
whole-between e Between.inputs = refl
whole-between e Between.gates = refl
whole-between e Between.outputs = refl

-- a record's only item
only : (d : Draft) (c : Drafted) → Counts d c → unless_stopped (unless_stopped c (λ e. laid_all e [])) (λ e. whole e e.due) ≡ c
unfolding unless_stopped laid_all
only d (stopped reason) n = refl
only d (drafted e) (one m w l g b t) = whole-between e b

-- what an item leaves of the entries taken, and that it does nothing once the pen is put down
taken_after : (lay : Bool) (place w : ℕ) (k : Desk) (s : Step) → (desk_after lay place w k s).pen.taken ≡ k.pen.taken
taken_after lay place w k (Step.Refused reason) = refl
taken_after lay place w k (Makes wire due) = refl
taken_after lay place w k (Goes due) = refl
taken_after lay place w k (Gives wire) = refl
taken_after lay place w k Ends = refl

taken_on : (lay : Bool) (place : ℕ) (x : Item) (k : Desk) (answer : Answer) → (item_on lay place x k answer).pen.taken ≡ k.pen.taken
unfolding item_on
taken_on lay place x k (Ok done) =
    taken_after lay place (cut_word x) k (judged (take k.pen.made k.moduli) k.pen.given k.pen.at k.pen.due x)
taken_on lay place x k (Err why) = refl

pub taken_kept : (lay : Bool) (place : ℕ) (x : Item) (k : Desk) → (lay_item lay place x k).pen.taken ≡ k.pen.taken
taken_kept lay place x k = taken_on lay place x k k.pen.answer

idle_item : (lay : Bool) (place : ℕ) (x : Item) (k : Desk) {why : Refused} → k.pen.answer ≡ Err why → lay_item lay place x k ≡ k
unfolding item_on
idle_item lay place x k e = ap (item_on lay place x k) e

idle_table : (lay : Bool) (place : ℕ) (tables : List ℕ) (k : Desk) {why : Refused} → k.pen.answer ≡ Err why → lay_table lay place tables k ≡ k
unfolding table_after
idle_table lay place tables k e = ap (table_after lay place tables k) e

first_more : (n : ℕ) → 0 < n → n ≡ suc (n - 1)
first_more n h = omega arith

-- the draft with other entries left is held as well
holds-leaving : {lay : Bool} {before : List ℕ} {k : Desk} {d : Draft} → Holds lay before k d → (left : List ℕ) → Holds lay before k (leaving d left)
holds-leaving h left =
    record {
      answer = h.answer;
      steady = h.steady;
      sound = record { byte = h.sound.byte; positive = h.sound.positive; entries = h.sound.entries };
      moduli = h.moduli;
      given = h.given;
      due = h.due;
      at = h.at;
      size = h.size;
      kept = h.kept;
      laid = h.laid;
    }

module _ {lay : Bool} {before : List ℕ} (tables : List ℕ) {k : Desk} {d : Draft} (h : Holds lay before k d) (near : k.pen.at ≤ 1 + 257 * (k.pen.made + k.pen.given))
    (place : ℕ) (here : place ≡ k.pen.made + k.pen.given) (ahead : drop k.pen.taken tables ≡ d.tables) where
  down_steady : {reason : Refusal} → Steady (stop k.pen reason place) k.moduli
  down_steady = record { room = h.steady.room; made = h.steady.made; given = h.steady.given; choosing = h.steady.choosing }

  -- the pen put down at once
  down : {k' : Desk} {reason : Refusal} → k' ≡ desk (stop k.pen reason place) k.moduli k.file → Leaves lay tables before place k' (stopped reason)
  down {k'} {reason} e =
      subst (λ (j : Desk). Leaves lay tables before place j (stopped reason)) (sym e)
      (off refl (record { steady = down_steady; near = omega (arith, near) }) h.kept)

  leaves_one : {k' : Desk} {c : Drafted} → Comes lay before place k k' c → Counts d c → k'.pen.taken ≡ k.pen.taken → Leaves lay tables before place k' c
  leaves_one {k'} (held h') (one {e} m w l g b t) same =
      on h' b
      (omega (arith, near, h.at, h'.at, w, made-is h, made-is h', h.given, h'.given, m, l, g))
      (omega (arith, here, made-is h, made-is h', h.given, h'.given, m))
      (ap (λ (n : ℕ). drop n tables) same ∙ ahead ∙ sym t)
  leaves_one (put_down e) none same = down e

  -- a record with one item
  leaves_item : (x : Item) {speech : Speech} → Means d.moduli d.tables (saying x Alone) speech → Leaves lay tables before place (lay_item lay place x k) (said_to d (items (x ∷ []) d.tables))
  unfolding said_to laid_all
  leaves_item x means =
      let n : Counts d (laid d x) = counts means (judging d.moduli d.given (length d.words) d.due x) in
      subst (Leaves lay tables before place (lay_item lay place x k)) (sym (only d (laid d x) n)) (leaves_one (held_item h place x (byte-named means)) n (taken_kept lay place x k))

  -- a record that says nothing
  leaves_nothing : Leaves lay tables before place (refuse place k k.pen.answer) (said_to d nothing)
  unfolding said_to refuse
  leaves_nothing = down (ap (refuse place k) h.answer)

  -- a projection: its own item, and then its table
  module _ (q a : ℕ) where
    abbrev p : ℕ
    p = get_or d.moduli a 0

    abbrev begun : Draft
    begun = leaving d (drop p d.tables)

    abbrev images : List ℕ
    images = take p d.tables

    abbrev rest_of : Drafted → Drafted
    rest_of c = unless_stopped (unless_stopped c (λ e. laid_all e (map Entry images))) (λ e. whole e e.due)

    -- what the code takes of the tables
    taken_images : (n : ℕ) → n ≡ k.pen.taken → take p (drop n tables) ≡ images
    taken_images n e = ap (λ (m : ℕ). take p (drop m tables)) e ∙ ap (take p) ahead

    some_left : (n : ℕ) → n ≡ k.pen.taken → length images ≡ min p (length tables - n)
    some_left n e = sym (ap length (taken_images n e)) ∙ length-take p (drop n tables) ∙ ap (min p) (length-drop n tables)

    -- the desk after the projection's own item
    record Projected (n : ℕ) (k₁ : Desk) (e₁ : Draft) : Type 0 where
      pub some : p ≡ suc n
      pub byte : p < 256
      pub holds : Holds lay before k₁ e₁
      pub due : e₁.due ≡ Entries p q
      pub made : length e₁.moduli ≡ length d.moduli + 1
      pub given : e₁.given ≡ d.given
      pub words : length e₁.words ≡ length d.words + 1
      pub ends : e₁.tables ≡ drop p d.tables
      pub taken : k₁.pen.taken ≡ k.pen.taken

    module _ {n : ℕ} {k₁ : Desk} {e₁ : Draft} (j : Projected n k₁ e₁) where
      abbrev enough : Bool
      enough = leb (k₁.pen.taken + p) (length tables)

      is_enough : enough ≡ true → length images ≡ suc n
      is_enough f = omega (arith, leb-true (k₁.pen.taken + p) (length tables) f, some_left k₁.pen.taken j.taken, j.some)

      not_enough : enough ≡ false → length images < suc n
      not_enough f = omega (arith, leb-false (k₁.pen.taken + p) (length tables) f, some_left k₁.pen.taken j.taken, j.some)

      on_table : lay_table lay place tables k₁ ≡ table_on lay place (suc n) images k₁ (all_below q images) enough
      unfolding table_after table_due
      on_table =
          ap (table_after lay place tables k₁) j.holds.answer
          ∙ ap (table_due lay place tables k₁) (j.holds.due ∙ j.due)
          ∙ ap (λ (l : List ℕ). table_on lay place p l k₁ (all_below q l) enough) (taken_images k₁.pen.taken j.taken)
          ∙ ap (λ (m : ℕ). table_on lay place m images k₁ (all_below q images) enough) j.some

      after_table : {k₂ : Desk} {c : Drafted} → Tabled lay before place n k₁ e₁ k₂ c → Leaves lay tables before place k₂ c
      after_table (full_table {e = e} h₂ gates m g t tk at) =
          on h₂ (subst Between gates Between.gates)
          (omega (arith, near, at, j.holds.at, j.words, h.at, made-is h, made-is h₂, ap length m, j.made, h₂.given, g, j.given, h.given, j.some, j.byte))
          (omega (arith, here, made-is h, made-is h₂, ap length m, j.made, h₂.given, g, j.given, h.given))
          (ap (λ (i : ℕ). drop i tables) (tk ∙ ap (λ (i : ℕ). i + suc n) j.taken ∙ ap (λ (i : ℕ). k.pen.taken + i) (sym j.some))
          ∙ sym (drop-drop p k.pen.taken tables)
          ∙ ap (drop p) ahead
          ∙ sym j.ends
          ∙ t)
      after_table {k₂} (table-down {reason} e) =
          subst (λ (i : Desk). Leaves lay tables before place i (stopped reason)) (sym e)
          (off refl
          (record {
            steady = record { room = j.holds.steady.room; made = j.holds.steady.made; given = j.holds.steady.given; choosing = j.holds.steady.choosing };
            near = omega (arith, near, j.holds.at, j.words, h.at, made-is h, made-is j.holds, j.made, j.holds.given, j.given, h.given);
          })
          j.holds.kept)

      leaves_table : Leaves lay tables before place (lay_table lay place tables k₁) (unless_stopped (laid_all e₁ (map Entry images)) (λ e. whole e e.due))
      leaves_table =
          subst (λ (i : Desk). Leaves lay tables before place i (unless_stopped (laid_all e₁ (map Entry images)) (λ e. whole e e.due))) (sym on_table)
          (after_table (held-table j.holds n q (j.due ∙ ap (λ (m : ℕ). Entries m q) j.some) place images (all_below q images) enough refl is_enough not_enough))

    -- .. by what the item did
    leaves_project : {due : Due} (s : Step) → Judged d.moduli d.given (length d.words) due (Project q a) s → {k₁ : Desk}
        → Comes lay before place k k₁ (after_item begun (Project q a) s) → k₁.pen.taken ≡ k.pen.taken
        → Leaves lay tables before place (lay_table lay place tables k₁) (rest_of (after_item begun (Project q a) s))
    unfolding after_item unless_stopped
    leaves_project s (Judged.refused {reason = reason}) {k₁} (put_down e) tk =
        subst (λ (i : Desk). Leaves lay tables before place i (stopped reason)) (sym (idle_table lay place tables k₁ (ap (λ (i : Desk). i.pen.answer) e))) (down e)
    leaves_project s (Judged.project room modulus made) (held h₁) tk =
        leaves_table {n = p - 1}
        (record {
          some = first_more p (h.sound.positive a made);
          byte = h.sound.byte a made;
          holds = h₁;
          due = refl;
          made = length-append d.moduli (q ∷ []);
          given = refl;
          words = length-append d.words (word_of (Project q a) ∷ []);
          ends = refl;
          taken = tk;
        })

    leaves_projection : Leaves lay tables before place (lay_table lay place tables (lay_item lay place (Project q a) k)) (said_to d (items (Project q a ∷ map Entry images) (drop p d.tables)))
    unfolding said_to laid_all
    leaves_projection =
        leaves_project _ (judging d.moduli d.given (length d.words) d.due (Project q a))
        (held_item (holds-leaving h (drop p d.tables)) place (Project q a) (lit< tt)) (taken_kept lay place (Project q a) k)

  -- a choice: its bit, and then its branches
  module _ (bit a b : ℕ) where
    abbrev branches : Item
    branches = Item.Branches a b

    abbrev rest_of_choice : Drafted → Drafted
    rest_of_choice c = unless_stopped (unless_stopped c (λ e. unless_stopped (laid e branches) (λ f. laid_all f []))) (λ e. whole e e.due)

    -- the desk after the bit
    record Chosen (k₁ : Desk) (e₁ : Draft) : Type 0 where
      pub holds : Holds lay before k₁ e₁
      pub made : e₁.moduli ≡ d.moduli
      pub given : e₁.given ≡ d.given
      pub words : length e₁.words ≡ length d.words + 1
      pub ends : e₁.tables ≡ d.tables
      pub taken : k₁.pen.taken ≡ k.pen.taken

    module _ {k₁ : Desk} {e₁ : Draft} (j : Chosen k₁ e₁) where
      after_branches : {k₂ : Desk} {c : Drafted} → Comes lay before place k₁ k₂ c → Counts e₁ c → k₂.pen.taken ≡ k₁.pen.taken → Leaves lay tables before place k₂ c
      after_branches (held h₂) (one m w l g between t) same =
          on h₂ between
          (omega (arith, near, h₂.at, w, j.words, h.at, made-is h, made-is h₂, h₂.given, h.given, m, l, g, ap length j.made, j.given, j.holds.given))
          (omega (arith, here, made-is h, made-is h₂, h₂.given, h.given, m, ap length j.made, j.given))
          (ap (λ (i : ℕ). drop i tables) (same ∙ j.taken) ∙ ahead ∙ sym j.ends ∙ sym t)
      after_branches (put_down {reason} e) none same =
          subst (λ (i : Desk). Leaves lay tables before place i (stopped reason)) (sym e)
          (off refl
          (record {
            steady = record { room = j.holds.steady.room; made = j.holds.steady.made; given = j.holds.steady.given; choosing = j.holds.steady.choosing };
            near = omega (arith, near, j.holds.at, j.words, h.at, made-is h, made-is j.holds, ap length j.made, j.holds.given, j.given, h.given);
          })
          j.holds.kept)

      leaves_branches : Leaves lay tables before place (lay_item lay place branches k₁) (unless_stopped (unless_stopped (laid e₁ branches) (λ f. laid_all f [])) (λ e. whole e e.due))
      leaves_branches =
          let n : Counts e₁ (laid e₁ branches) = branches-count e₁ (judging e₁.moduli e₁.given (length e₁.words) e₁.due branches) in
          subst (Leaves lay tables before place (lay_item lay place branches k₁)) (sym (only e₁ (laid e₁ branches) n))
          (after_branches (held_item j.holds place branches (lit< tt)) n (taken_kept lay place branches k₁))

    leaves_select : {due : Due} (s : Step) → Judged d.moduli d.given (length d.words) due (Select bit) s → {k₁ : Desk}
        → Comes lay before place k k₁ (after_item d (Select bit) s) → k₁.pen.taken ≡ k.pen.taken
        → Leaves lay tables before place (lay_item lay place branches k₁) (rest_of_choice (after_item d (Select bit) s))
    unfolding after_item unless_stopped
    leaves_select s (Judged.refused {reason = reason}) {k₁} (put_down e) tk =
        subst (λ (i : Desk). Leaves lay tables before place i (stopped reason)) (sym (idle_item lay place branches k₁ (ap (λ (i : Desk). i.pen.answer) e))) (down e)
    leaves_select s (Judged.select room made) (held h₁) tk =
        leaves_branches
        (record { holds = h₁; made = refl; given = refl; words = length-append d.words (word_of (Select bit) ∷ []); ends = refl; taken = tk })

    leaves_choice : Leaves lay tables before place (lay_item lay place branches (lay_item lay place (Select bit) k)) (said_to d (items (Select bit ∷ branches ∷ []) d.tables))
    unfolding said_to laid_all
    leaves_choice =
        leaves_select _ (judging d.moduli d.given (length d.words) d.due (Select bit)) (held_item h place (Select bit) (lit< tt)) (taken_kept lay place (Select bit) k)

  -- a record
  leaves : {speaks : Option Said} {speech : Speech} → Means d.moduli d.tables speaks speech → Leaves lay tables before place (spoken_on lay tables place speaks k) (said_to d speech)
  unfolding spoken_on rest_on
  leaves Means.silent = leaves_nothing
  leaves Means.input = leaves_item _ Means.input
  leaves Means.add = leaves_item _ Means.add
  leaves Means.scale = leaves_item _ Means.scale
  leaves Means.multiply = leaves_item _ Means.multiply
  leaves (Means.output byte) = leaves_item _ (Means.output byte)
  leaves (Means.table {modulus} {a}) = leaves_projection modulus a
  leaves (Means.choice {bit} {a} {b}) = leaves_choice bit a b

-- the rest of the records, after one more
rest_more : (records : List Record) (tables : List ℕ) (i : ℕ) (d : Draft) → i < length records → write_from i (drop i records) d ≡ write_records records tables
    → onward (write_from (suc i) (drop (suc i) records)) i (recorded d (get_or records i no_record)) ≡ write_records records tables
unfolding write_from
rest_more records tables i d l e = sym (ap (λ (rs : List Record). write_from i rs d) (drop-cons records i no_record l)) ∙ e

-- the step after a refusal does nothing
idle_rest : (lay : Bool) (tables : List ℕ) (rest : Rest) (place : ℕ) (k : Desk) {why : Refused} → k.pen.answer ≡ Err why → rest_on lay tables place rest k ≡ k
unfolding rest_on
idle_rest lay tables Alone place k e = refl
idle_rest lay tables Table place k e = idle_table lay place tables k e
idle_rest lay tables (Rest.Branches a b) place k e = idle_item lay place (Item.Branches a b) k e

idle : (lay : Bool) (tables : List ℕ) (speaks : Option Said) (place : ℕ) (k : Desk) {why : Refused} → k.pen.answer ≡ Err why → spoken_on lay tables place speaks k ≡ k
unfolding spoken_on refuse
idle lay tables None place k e = ap (refuse place k) e
idle lay tables (Some said) place k e = ap (rest_on lay tables place said.rest) (idle_item lay place said.first k e) ∙ idle_rest lay tables said.rest place k e

-- Before the first record, what a record may rely on, and one record more.
module _ {lay : Bool} {tables before : List ℕ} {records : List Record} where
  pub start : {pen : Pen} {moduli file : List ℕ} → length moduli ≡ 1024 → Begun lay before pen file → Walked lay tables before records 0 pen moduli file
  unfolding write_records file_of
  start {pen} {moduli} {file} room b =
      subst (λ (x : Pen). Walked lay tables before records 0 x moduli file) (sym b.pen_is)
      (Walked.goes (blank tables)
      (record {
        answer = refl;
        steady = record { room = room; made = omega arith; given = omega arith; choosing = λ bit e. absurd (no_choice refl e) };
        sound = record { byte = λ w l. absurd (not-suc-le-zero l); positive = λ w l. absurd (not-suc-le-zero l); entries = λ left modulus e. absurd (not-inputs e) };
        moduli = refl;
        given = refl;
        due = refl;
        at = refl;
        size = k.size;
        kept = k.kept;
        laid = k.laid;
      })
      Between.inputs (omega arith) refl refl refl)
    where
      k : Kept lay before file (word_of Head ∷ [])
      k = rw b.file_is (kept_more lay {ws = []} (word_of Head) (record { size = refl; kept = λ e. refl; laid = λ e r. refl }) refl)

  pub ready : {i : ℕ} {pen : Pen} {moduli file : List ℕ} → Walked lay tables before records i pen moduli file → Ready pen moduli
  ready (Walked.goes d h between near here ahead rest) = record { steady = h.steady; near = omega (arith, near) }
  ready (Walked.stops answer so r kept) = r

  walked_on : {i : ℕ} {k : Desk} {c : Drafted} → Leaves lay tables before i k c → onward (write_from (suc i) (drop (suc i) records)) i c ≡ write_records records tables
      → Walked lay tables before records (i + 1) k.pen k.moduli k.file
  unfolding onward
  walked_on {i} (on {d} h between near here ahead) e =
      Walked.goes d h between near (add-one i ∙ here) ahead (ap (λ (n : ℕ). write_from n (drop n records) d) (add-one i) ∙ e)
  walked_on (off answer r kept) e = Walked.stops answer e r kept

  pub more : {i : ℕ} {pen pen' : Pen} {moduli moduli' file file' : List ℕ} → i < length records → Walked lay tables before records i pen moduli file
      → Stepped lay tables (get_or records i no_record) pen moduli file pen' moduli' file' → Walked lay tables before records (i + 1) pen' moduli' file'
  more {i} {pen} {pen'} {moduli} {moduli'} {file} {file'} l (Walked.goes d h between near here ahead rest) s =
      subst (λ (k : Desk). Walked lay tables before records (i + 1) k.pen k.moduli k.file)
      (ap (λ (n : ℕ). spoken_on lay tables n s.speaks (desk pen moduli file)) here ∙ sym s.done)
      (walked_on (leaves tables h near i here ahead (s.means d.moduli d.tables)) (rest_more records tables i d l rest))
  more {i} {pen} {pen'} {moduli} {moduli'} {file} {file'} l (Walked.stops answer so r kept) s =
      subst (λ (k : Desk). Walked lay tables before records (i + 1) k.pen k.moduli k.file)
      (sym (s.done ∙ idle lay tables s.speaks (pen.made + pen.given) (desk pen moduli file) answer))
      (Walked.stops answer so r kept)
