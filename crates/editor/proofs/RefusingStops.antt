-- Where the writer stops: at the first item of a record that is refused, or behind its items where table entries ran out.
-- Assumes nothing.
use mathlib.Core.Path.{◌≡◌, refl, sym, ap, ◌∙◌}
use mathlib.Core.List.{List, [], ◌∷◌, ◌++◌}
use Prim.Native.Nat.{ℕ}
use native.Mathlib.Omega.{arith}
use Rattle.checks.specs.declared.Refusal.{Refusal}
use Rattle.checks.specs.declared.Refusal.TheVariants.{UnknownWord, WrongLength}
use Rattle.words.specs.declared.gate.Due.{Due}
use Rattle.words.specs.declared.gate.Due.TheVariants.{Inputs, Gates, Outputs, Entries, Branches}
use Rattle.words.specs.declared.gate.Step.{Step}
use Rattle.words.specs.declared.gate.Step.TheVariants.{Refused, Makes, Goes, Gives, Ends}
use Rattle.words.specs.declared.item.Item.{Item}
use Rattle.writer.specs.Says.{Speech, nothing, items}
use Rattle.writer.specs.Written.{Draft, Drafted, stopped, drafted, leaving, after_item, laid, unless_stopped, laid_all, whole, said_to}

pub not_drafted : {A : Type 0} {reason : Refusal} {d : Draft} → drafted d ≡ stopped reason → A
not_drafted e = let z : ◌≡◌ {A = ℕ} 0 1 = cc in absurd (omega arith)

abbrev reason_of : Refusal → Drafted → Refusal
reason_of other (stopped reason) = reason
reason_of other (drafted d) = other

same_reason : {reason other : Refusal} → stopped reason ≡ stopped other → reason ≡ other
same_reason {reason} e = ap (reason_of reason) e

-- an item that is stopped is refused
pub stopped_item : (d : Draft) (x : Item) (s : Step) {reason : Refusal} → after_item d x s ≡ stopped reason → s ≡ Refused reason
unfolding after_item
stopped_item d x (Refused reason) h = ap Refused (same_reason h)
stopped_item d x (Makes wire due) h = not_drafted h
stopped_item d x (Goes due) h = not_drafted h
stopped_item d x (Gives wire) h = not_drafted h
stopped_item d x Ends h = not_drafted h

-- the first of some items that is stopped
pub record Stopped (d : Draft) (xs : List Item) (reason : Refusal) : Type 0 where
  pub before : List Item
  pub item : Item
  pub later : List Item
  pub draft : Draft
  pub parts : xs ≡ before ++ (item ∷ later)
  pub reached : laid_all d before ≡ drafted draft
  pub stops : laid draft item ≡ stopped reason

stopped_first : (d : Draft) (x : Item) (xs : List Item) {reason : Refusal} → laid d x ≡ stopped reason → Stopped d (x ∷ xs) reason
unfolding laid_all
stopped_first d x xs e = record { before = []; item = x; later = xs; draft = d; parts = refl; reached = refl; stops = e }

stopped_later : (d f : Draft) (x : Item) (xs : List Item) {reason : Refusal} → laid d x ≡ drafted f → Stopped f xs reason → Stopped d (x ∷ xs) reason
unfolding laid_all unless_stopped
stopped_later d f x xs e s =
    record {
      before = x ∷ s.before;
      item = s.item;
      later = s.later;
      draft = s.draft;
      parts = ap (λ (ys : List Item). x ∷ ys) s.parts;
      reached = ap (λ (m : Drafted). unless_stopped m (λ (k : Draft). laid_all k s.before)) e ∙ s.reached;
      stops = s.stops;
    }

pub stopped_at : (xs : List Item) (d : Draft) {reason : Refusal} → laid_all d xs ≡ stopped reason → Stopped d xs reason
unfolding laid_all unless_stopped
stopped_at [] d h = not_drafted h
stopped_at (x ∷ xs) d {reason} h = by (laid d x) refl h (λ f k. stopped_at xs f k)
  where
    by :
        (m : Drafted)
        → laid d x ≡ m
        → unless_stopped m (λ (f : Draft). laid_all f xs) ≡ stopped reason
        → ((f : Draft) → laid_all f xs ≡ stopped reason → Stopped f xs reason)
        → Stopped d (x ∷ xs) reason
    by (stopped other) e k rest = stopped_first d x xs (e ∙ k)
    by (drafted f) e k rest = stopped_later d f x xs e (rest f k)

-- a record that is stopped
pub data Stops (d : Draft) : Speech → Refusal → Type 0 where
  unknown : {reason : Refusal} → reason ≡ UnknownWord → Stops d nothing reason
  item : {says : List Item} {left : List ℕ} {reason : Refusal} → Stopped (leaving d left) says reason → Stops d (items says left) reason
  entries :
      {says : List Item} {left : List ℕ} {e : Draft} {due modulus : ℕ} {reason : Refusal}
      → reason ≡ WrongLength
      → laid_all (leaving d left) says ≡ drafted e
      → e.due ≡ Entries due modulus
      → Stops d (items says left) reason

ran_out :
    (d e : Draft) (says : List Item) (left : List ℕ) (due : Due) {reason : Refusal}
    → laid_all (leaving d left) says ≡ drafted e
    → e.due ≡ due
    → whole e due ≡ stopped reason
    → Stops d (items says left) reason
unfolding whole
ran_out d e says left Inputs l f h = not_drafted h
ran_out d e says left Gates l f h = not_drafted h
ran_out d e says left Outputs l f h = not_drafted h
ran_out d e says left (Entries due modulus) l f h = Stops.entries (sym (same_reason h)) l f
ran_out d e says left (Branches bit) l f h = not_drafted h

pub stopped_record : (d : Draft) (s : Speech) {reason : Refusal} → said_to d s ≡ stopped reason → Stops d s reason
unfolding said_to unless_stopped
stopped_record d nothing h = Stops.unknown (sym (same_reason h))
stopped_record d (items says left) {reason} h = by (laid_all (leaving d left) says) refl h
  where
    by : (m : Drafted) → laid_all (leaving d left) says ≡ m → unless_stopped m (λ (e : Draft). whole e e.due) ≡ stopped reason → Stops d (items says left) reason
    by (stopped other) e k = Stops.item (stopped_at says (leaving d left) (e ∙ k))
    by (drafted f) e k = ran_out d f says left f.due e refl k
