-- Laws of a projection's table: its entries are judged one after another, and then whether there are enough.
-- Assumes nothing.
use mathlib.Core.Path.{◌≡◌, refl, sym, ap, ap₂, ◌∙◌}
use mathlib.Core.Bool.{Bool, true, false, cond, ◌&&◌}
use mathlib.Core.List.{List}
use Prim.Native.Nat.{ℕ, suc, ◌+◌, ◌-◌, ◌≤◌, ◌<◌}
use native.Mathlib.Omega.{arith}
use lib.Dec.{leb, ltb}
use lib.ListN.{length, get_or, take, drop, length-drop, drop_of_length-le}
use lib.Seq.{drop-cons, take_all, take-nil}
use borrow.Author.Tests.{le-leb, lt-leb}
use Rattle.checks.specs.declared.Refusal.TheVariants.{OutOfRange, WrongLength}
use Rattle.words.specs.declared.gate.Due.{Due}
use Rattle.words.specs.declared.gate.Due.TheVariants.{Inputs, Gates, Outputs, Entries, Branches}
use Rattle.writer.specs.declared.pen.Pen.{Pen}
use Rattle.writer.specs.Desk.{Desk, desk, pen_of, stop, put_words, entry_words, all_below, images_from, table_on, table_due, table_after, lay_table}
use Rattle.writer.proofs.Desks.{desk_same}
use Rattle.std.specs.Prelude.{Err}
use Rattle.checks.specs.declared.Refused.{Refused}
use Rattle.checks.specs.Answer.{accepts}

-- one image is judged, and the others are those left
and_assoc : (a b c : Bool) → ((a && b) && c) ≡ (a && (b && c))
and_assoc true b c = refl
and_assoc false b c = refl

and-true : (a : Bool) → (a && true) ≡ a
and-true true = refl
and-true false = refl

pub below_next :
    (modulus : ℕ) (images : List ℕ) (i : ℕ) (good : Bool)
    → i < length images
    → ((good && ltb (get_or images i 0) modulus) && all_below modulus (drop (i + 1) images)) ≡ (good && all_below modulus (drop i images))
unfolding all_below
below_next modulus images i good h =
    let s : i + 1 ≡ suc i = omega arith in
    and_assoc good (ltb (get_or images i 0) modulus) (all_below modulus (drop (i + 1) images))
    ∙ ap (λ (k : ℕ). good && (ltb (get_or images i 0) modulus && all_below modulus (drop k images))) s
    ∙ sym (ap (λ (xs : List ℕ). good && all_below modulus xs) (drop-cons images i 0 h))

pub below-done : (modulus : ℕ) (images : List ℕ) (i : ℕ) (good : Bool) → length images ≤ i → good ≡ (good && all_below modulus (drop i images))
unfolding all_below
below-done modulus images i good h = sym (ap (λ (xs : List ℕ). good && all_below modulus xs) (drop_of_length-le images h) ∙ and-true good)

-- what is there: nothing, all that is left, or as many entries as are wanted
module _ (modulus : ℕ) (tables : List ℕ) (taken left : ℕ) where
  pub none_ahead : length tables < taken → all_below modulus (images_from tables taken left) ≡ true
  unfolding all_below
  none_ahead h =
      ap (λ (xs : List ℕ). all_below modulus (take left xs)) (drop_of_length-le tables {i = taken} (omega arith)) ∙ ap (all_below modulus) (take-nil left)

  pub all_ahead :
      {r b : Bool}
      → r ≡ all_below modulus (take (length tables - taken) (drop taken tables))
      → length tables - taken < left
      → r ≡ b
      → all_below modulus (images_from tables taken left) ≡ b
  all_ahead e h f =
      let l : length (drop taken tables) ≡ length tables - taken = length-drop taken tables in
      ap (all_below modulus) (take_all left (drop taken tables) (omega arith) ∙ sym (take_all (length tables - taken) (drop taken tables) (omega arith)))
      ∙ sym e
      ∙ f

  as_wanted : take (taken + left - taken) (drop taken tables) ≡ images_from tables taken left
  as_wanted = let e : taken + left - taken ≡ left = omega arith in ap (λ (k : ℕ). take k (drop taken tables)) e

  pub some_ahead :
      {r b : Bool}
      → r ≡ all_below modulus (take (taken + left - taken) (drop taken tables))
      → r ≡ b
      → all_below modulus (images_from tables taken left) ≡ b
  some_ahead e f = ap (all_below modulus) (sym as_wanted) ∙ sym e ∙ f

-- the entries that are there, and whether there are enough
module _ (lay : Bool) (place : ℕ) (tables : List ℕ) (pen : Pen) (moduli file : List ℕ) (left modulus : ℕ) where
  abbrev images : List ℕ
  images = images_from tables pen.taken left

  abbrev Done : Pen → List ℕ → Type 0
  Done p f = desk p moduli f ≡ table_due lay place tables (desk pen moduli file) (Entries left modulus)

  by_tests :
      {p : Pen} {f : List ℕ} (good enough : Bool)
      → all_below modulus images ≡ good
      → leb (pen.taken + left) (length tables) ≡ enough
      → desk p moduli f ≡ table_on lay place left images (desk pen moduli file) good enough
      → Done p f
  unfolding table_due
  by_tests good enough g e d = d ∙ sym (ap₂ (table_on lay place left images (desk pen moduli file)) g e)

  -- all are below the modulus, and there are too few
  pub too_few : {p : Pen} → all_below modulus images ≡ true → length tables < pen.taken + left → p ≡ stop pen WrongLength place → Done p file
  unfolding table_on
  too_few g h e = by_tests true false g (lt-leb (pen.taken + left) (length tables) h) (ap (λ (x : Pen). desk x moduli file) e)

  -- one is not
  out : {p : Pen} (enough : Bool) → all_below modulus images ≡ false → leb (pen.taken + left) (length tables) ≡ enough → p ≡ stop pen OutOfRange place → Done p file
  unfolding table_on
  out enough g h e = by_tests false enough g h (ap (λ (x : Pen). desk x moduli file) e)

  pub out_of_range : {p : Pen} → all_below modulus images ≡ false → p ≡ stop pen OutOfRange place → Done p file
  out_of_range g e = out (leb (pen.taken + left) (length tables)) g refl e

  -- they are laid down
  pub all_there :
      {p : Pen} {f : List ℕ}
      → all_below modulus images ≡ true
      → pen.taken + left ≤ length tables
      → p ≡ pen_of Gates pen.made pen.given (pen.taken + left) (pen.at + left)
      → f ≡ cond lay (put_words file pen.at (entry_words (take (pen.taken + left - pen.taken) (drop pen.taken tables)))) file
      → Done p f
  unfolding table_on
  all_there g h e f = by_tests true true g (le-leb (pen.taken + left) (length tables) h) (desk_same e refl (f ∙ ap (λ (xs : List ℕ). cond lay (put_words file pen.at (entry_words xs)) file) (as_wanted modulus tables pen.taken left)))

-- where nothing was refused and a table is due, and where not
module _ (lay : Bool) (place : ℕ) (tables : List ℕ) (d : Desk) where
  pub table_on_lem : {k : Desk} {due : Due} → d.pen.answer ≡ accepts → d.pen.due ≡ due → k ≡ table_due lay place tables d due → k ≡ lay_table lay place tables d
  unfolding table_after
  table_on_lem e f g = g ∙ sym (ap (table_after lay place tables d) e ∙ ap (table_due lay place tables d) f)

  pub table_off : {why : Refused} → d.pen.answer ≡ Err why → d ≡ lay_table lay place tables d
  unfolding table_after
  table_off e = sym (ap (table_after lay place tables d) e)

  -- none is due
  pub none-due : (due : Due) → ((left modulus : ℕ) → due ≡ Entries left modulus → ⊥) → d ≡ table_due lay place tables d due
  unfolding table_due
  none-due Inputs not = refl
  none-due Gates not = refl
  none-due Outputs not = refl
  none-due (Entries left modulus) not = absurd (not left modulus refl)
  none-due (Branches bit) not = refl
