-- A draft only grows: what an item, items or a record that nothing stopped leave of the words before, and the parts that they went through.
-- Assumes nothing.
use mathlib.Core.Path.{◌≡◌, refl, sym, ap, subst, ◌∙◌}
use mathlib.Core.List.{List, [], ◌∷◌, ◌++◌, append-nil, append_assoc}
use Prim.Native.Nat.{ℕ, ◌<◌}
use native.Mathlib.Omega.{arith}
use lib.ListN.{length, get_or, length-append}
use lib.Seq.{get_or-append_seam}
use Rattle.checks.specs.declared.Refusal.{Refusal}
use Rattle.words.specs.Encode.{word_of}
use Rattle.words.specs.declared.gate.Due.{Due}
use Rattle.words.specs.declared.gate.Due.TheVariants.{Inputs, Gates, Outputs, Entries, Branches}
use Rattle.words.specs.declared.gate.Step.{Step}
use Rattle.words.specs.declared.gate.Step.TheVariants.{Refused, Makes, Goes, Gives, Ends}
use Rattle.words.specs.declared.item.Item.{Item}
use Rattle.writer.specs.Says.{Speech, nothing, items}
use Rattle.writer.specs.Written.{Draft, Drafted, stopped, drafted, leaving, after_item, laid, unless_stopped, laid_all, whole, said_to}

-- a list with another at its front
pub record Begins (front xs : List ℕ) : Type 0 where
  pub rest : List ℕ
  pub is : xs ≡ front ++ rest

pub begins_same : (xs : List ℕ) → Begins xs xs
begins_same xs = record { rest = []; is = sym (append-nil xs) }

pub begins_trans : {xs ys zs : List ℕ} → Begins xs ys → Begins ys zs → Begins xs zs
begins_trans {xs} {ys} {zs} b c =
    record { rest = b.rest ++ c.rest; is = c.is ∙ ap (λ (l : List ℕ). l ++ c.rest) b.is ∙ append_assoc xs b.rest c.rest }

-- what stands behind the front
module _ (front : List ℕ) (w : ℕ) {xs : List ℕ} (b : Begins (front ++ (w ∷ [])) xs) where
  seam : xs ≡ front ++ (w ∷ b.rest)
  seam = b.is ∙ append_assoc front (w ∷ []) b.rest

  pub begins_word : get_or xs (length front) 0 ≡ w
  begins_word = ap (λ (l : List ℕ). get_or l (length front) 0) seam ∙ get_or-append_seam front w b.rest 0

  pub begins_inside : length front < length xs
  begins_inside = omega (arith, ap (length {A = ℕ}) seam, length-append front (w ∷ b.rest))

  pub begins_front : Begins front xs
  begins_front = record { rest = w ∷ b.rest; is = seam }

-- which draft it is
abbrev draft_of : Draft → Drafted → Draft
draft_of other (stopped reason) = other
draft_of other (drafted d) = d

pub same_draft : {d e : Draft} → drafted d ≡ drafted e → d ≡ e
same_draft {d} e = ap (draft_of d) e

pub not_stopped : {A : Type 0} {reason : Refusal} {d : Draft} → stopped reason ≡ drafted d → A
not_stopped e = let z : ◌≡◌ {A = ℕ} 0 1 = cc in absurd (omega arith)

-- what was done after something
pub record Then (m : Drafted) (next : Draft → Drafted) (e : Draft) : Type 0 where
  pub middle : Draft
  pub first : m ≡ drafted middle
  pub second : next middle ≡ drafted e

pub and_then : (m : Drafted) (next : Draft → Drafted) {e : Draft} → unless_stopped m next ≡ drafted e → Then m next e
unfolding unless_stopped
and_then (stopped reason) next h = not_stopped h
and_then (drafted d) next h = record { middle = d; first = refl; second = h }

-- one item
pub words-after : (d : Draft) (x : Item) (s : Step) {e : Draft} → after_item d x s ≡ drafted e → d.words ++ (word_of x ∷ []) ≡ e.words
unfolding after_item
words-after d x (Refused reason) h = not_stopped h
words-after d x (Makes wire due) h = ap (λ (m : Drafted). (draft_of d m).words) h
words-after d x (Goes due) h = ap (λ (m : Drafted). (draft_of d m).words) h
words-after d x (Gives wire) h = ap (λ (m : Drafted). (draft_of d m).words) h
words-after d x Ends h = ap (λ (m : Drafted). (draft_of d m).words) h

-- .. with the table entries that are left
pub tables_after : (d : Draft) (x : Item) (s : Step) {e : Draft} → after_item d x s ≡ drafted e → d.tables ≡ e.tables
unfolding after_item
tables_after d x (Refused reason) h = not_stopped h
tables_after d x (Makes wire due) h = ap (λ (m : Drafted). (draft_of d m).tables) h
tables_after d x (Goes due) h = ap (λ (m : Drafted). (draft_of d m).tables) h
tables_after d x (Gives wire) h = ap (λ (m : Drafted). (draft_of d m).tables) h
tables_after d x Ends h = ap (λ (m : Drafted). (draft_of d m).tables) h

-- .. and what is due then
abbrev pub due_after : Step → Due → Due
due_after (Refused reason) due = due
due_after (Makes wire then) due = then
due_after (Goes then) due = then
due_after (Gives wire) due = Outputs
due_after Ends due = due

pub due-after : (d : Draft) (x : Item) (s : Step) {e : Draft} → after_item d x s ≡ drafted e → due_after s d.due ≡ e.due
unfolding after_item
due-after d x (Refused reason) h = not_stopped h
due-after d x (Makes wire due) h = ap (λ (m : Drafted). (draft_of d m).due) h
due-after d x (Goes due) h = ap (λ (m : Drafted). (draft_of d m).due) h
due-after d x (Gives wire) h = ap (λ (m : Drafted). (draft_of d m).due) h
due-after d x Ends h = ap (λ (m : Drafted). (draft_of d m).due) h

pub laid_begins : (d : Draft) (x : Item) {e : Draft} → laid d x ≡ drafted e → Begins (d.words ++ (word_of x ∷ [])) e.words
laid_begins d x {e} h = subst (λ (l : List ℕ). Begins (d.words ++ (word_of x ∷ [])) l) (words-after d x _ h) (begins_same (d.words ++ (word_of x ∷ [])))

-- items
pub first_then : (d : Draft) (x : Item) (xs : List Item) {e : Draft} → laid_all d (x ∷ xs) ≡ drafted e → Then (laid d x) (λ (f : Draft). laid_all f xs) e
unfolding laid_all
first_then d x xs h = and_then _ _ h

pub only_one : (d : Draft) (x : Item) {e : Draft} → laid_all d (x ∷ []) ≡ drafted e → laid d x ≡ drafted e
unfolding laid_all
only_one d x {e} h =
    let t : Then (laid d x) (λ (f : Draft). laid_all f []) e = first_then d x [] h in
    t.first ∙ t.second

pub all_begins : (xs : List Item) (d : Draft) {e : Draft} → laid_all d xs ≡ drafted e → Begins d.words e.words
unfolding laid_all
all_begins [] d {e} h = subst (λ (f : Draft). Begins d.words f.words) (same_draft h) (begins_same d.words)
all_begins (x ∷ xs) d {e} h =
    let t : Then (laid d x) (λ (f : Draft). laid_all f xs) e = first_then d x xs h in
    begins_trans (begins_front d.words (word_of x) (laid_begins d x t.first)) (all_begins xs t.middle t.second)

-- a record
pub record Laid (d : Draft) (s : Speech) (e : Draft) : Type 0 where
  pub says : List Item
  pub left : List ℕ
  pub said : s ≡ items says left
  pub all : laid_all (leaving d left) says ≡ drafted e
  pub whole : whole e e.due ≡ drafted e

whole_same : (d : Draft) (due : Due) {e : Draft} → whole d due ≡ drafted e → d ≡ e
unfolding whole
whole_same d Inputs h = same_draft h
whole_same d Gates h = same_draft h
whole_same d Outputs h = same_draft h
whole_same d (Entries left modulus) h = not_stopped h
whole_same d (Branches bit) h = same_draft h

pub laid_record : (d : Draft) (s : Speech) {e : Draft} → said_to d s ≡ drafted e → Laid d s e
unfolding said_to
laid_record d nothing h = not_stopped h
laid_record d (items says left) {e} h =
    let t : Then (laid_all (leaving d left) says) (λ (f : Draft). whole f f.due) e = and_then _ _ h in
    let same : t.middle ≡ e = whole_same t.middle t.middle.due t.second in
    record {
      says = says;
      left = left;
      said = refl;
      all = t.first ∙ ap drafted same;
      whole = subst (λ (f : Draft). whole f f.due ≡ drafted e) same t.second;
    }

pub record_begins : (d : Draft) (s : Speech) {e : Draft} → said_to d s ≡ drafted e → Begins d.words e.words
record_begins d s {e} h =
    let l : Laid d s e = laid_record d s h in
    all_begins l.says (leaving d l.left) l.all
