-- Laws of a desk: what an item leaves on it, by what it did.
-- `after-refused`, `after_makes`, .. answer the returns of `went`, `went_so` and `room_of` the calls of it; `steady-laid` and `at-laid` what the rest of a record asks.
-- Assumes nothing.
use mathlib.Core.Path.{◌≡◌, refl, sym, ap, ap₂, subst, ◌∙◌}
use mathlib.Core.Bool.{Bool, cond}
use mathlib.Core.List.{List}
use Prim.Native.Nat.{ℕ, ◌+◌, ◌≤◌, ◌<◌}
use native.Mathlib.Nat.{le_refl}
use native.Mathlib.Omega.{arith}
use lib.ListN.{length, take, set, length-set}
use lib.Seq.{length-take-le}
use Rattle.checks.specs.declared.Refusal.{Refusal}
use Rattle.words.specs.declared.gate.Due.{Due}
use Rattle.words.specs.declared.gate.Due.TheVariants.{Outputs}
use Rattle.words.specs.declared.gate.Wire.{Wire}
use Rattle.words.specs.declared.gate.Step.{Step}
use Rattle.words.specs.declared.gate.Step.TheVariants.{Makes, Goes, Gives, Ends}
use Rattle.words.specs.declared.item.Item.{Item}
use Rattle.words.specs.Items.{judged}
use Rattle.words.specs.Cut.{cut_word}
use Rattle.words.proofs.Judged.{Judged, judging}
use Rattle.writer.specs.declared.pen.Pen.{Pen}
use Rattle.writer.specs.Desk.{Desk, desk, pen_of, stop, put_word, pen_after, moduli_after, desk_after, item_on, lay_item, refuse}
use Rattle.writer.specs.Walked.{Steady, Ready, RoomFor}
use Rattle.writer.proofs.HoldingFacts.{makes_room, makes_plain, goes_room, gives_room, not-outputs}
use Rattle.std.specs.Prelude.{Ok, Err}
use Rattle.checks.specs.declared.Refused.{Refused}
use Rattle.checks.specs.Answer.{Answer, accepts}

-- a desk is its parts
pub desk_same : {p q : Pen} {m n f g : List ℕ} → p ≡ q → m ≡ n → f ≡ g → desk p m f ≡ desk q n g
desk_same {p} {q} {m} {n} {f} {g} a b c = ap (λ (x : Pen). desk x m f) a ∙ ap₂ (λ (x y : List ℕ). desk q x y) b c

-- what is left by a step that is known
module _ (lay : Bool) (place w : ℕ) (pen : Pen) (moduli file : List ℕ) where
  abbrev left_by : Step → Desk
  left_by step = desk_after lay place w (desk pen moduli file) step

  pub after-refused : {step : Step} {reason : Refusal} {pen' : Pen} → step ≡ Step.Refused reason → pen' ≡ stop pen reason place → desk pen' moduli file ≡ left_by step
  after-refused e p = ap (λ (x : Pen). desk x moduli file) p ∙ sym (ap left_by e)

  -- its word is laid down
  module _ {f : List ℕ} (put : f ≡ cond lay (put_word file pen.at w) file) where
    pub after_makes :
        {step : Step} {wire : Wire} {due : Due} {pen' : Pen}
        → step ≡ Makes wire due
        → pen' ≡ pen_of due (pen.made + 1) pen.given pen.taken (pen.at + 1)
        → desk pen' (set moduli pen.made wire.modulus) f ≡ left_by step
    after_makes e p = desk_same p refl put ∙ sym (ap left_by e)

    pub after_goes :
        {step : Step} {due : Due} {pen' : Pen}
        → step ≡ Goes due
        → pen' ≡ pen_of due pen.made pen.given pen.taken (pen.at + 1)
        → desk pen' moduli f ≡ left_by step
    after_goes e p = desk_same p refl put ∙ sym (ap left_by e)

    pub after_gives :
        {step : Step} {wire : ℕ} {pen' : Pen}
        → step ≡ Gives wire
        → pen' ≡ pen_of Outputs pen.made (pen.given + 1) pen.taken (pen.at + 1)
        → desk pen' moduli f ≡ left_by step
    after_gives e p = desk_same p refl put ∙ sym (ap left_by e)

    pub after-ends :
        {step : Step} {pen' : Pen} → step ≡ Ends → pen' ≡ pen_of pen.due pen.made pen.given pen.taken (pen.at + 1) → desk pen' moduli f ≡ left_by step
    after-ends e p = desk_same p refl put ∙ sym (ap left_by e)

  -- .. of an item that was judged
  pub went_so : (item : Item) {step : Step} {k : Desk} → w ≡ cut_word item → step ≡ judged (take pen.made moduli) pen.given pen.at pen.due item
      → k ≡ left_by step → k ≡ desk_after lay place (cut_word item) (desk pen moduli file) (judged (take pen.made moduli) pen.given pen.at pen.due item)
  went_so item {step} word j f =
      f ∙ ap left_by j ∙ ap (λ (x : ℕ). desk_after lay place x (desk pen moduli file) (judged (take pen.made moduli) pen.given pen.at pen.due item)) word

-- where nothing was refused, and where something was
module _ (lay : Bool) (place : ℕ) (item : Item) (d : Desk) {k : Desk} where
  pub lay_on :
      d.pen.answer ≡ accepts
      → k ≡ desk_after lay place (cut_word item) d (judged (take d.pen.made d.moduli) d.pen.given d.pen.at d.pen.due item)
      → k ≡ lay_item lay place item d
  unfolding item_on
  lay_on e f = f ∙ sym (ap (item_on lay place item d) e)

pub lay_off : (lay : Bool) (place : ℕ) (item : Item) (d : Desk) {why : Refused} → d.pen.answer ≡ Err why → d ≡ lay_item lay place item d
unfolding item_on
lay_off lay place item d e = sym (ap (item_on lay place item d) e)

-- a record that says nothing
pub refuse_on :
    (place : ℕ) (pen pen' : Pen) (moduli file : List ℕ)
    → pen.answer ≡ accepts
    → pen' ≡ stop pen Refusal.UnknownWord place
    → desk pen' moduli file ≡ refuse place (desk pen moduli file) pen.answer
unfolding refuse
refuse_on place pen pen' moduli file e p = ap (λ (x : Pen). desk x moduli file) p ∙ sym (ap (refuse place (desk pen moduli file)) e)

pub refuse_off :
    (place : ℕ) (pen : Pen) (moduli file : List ℕ) {why : Refused}
    → pen.answer ≡ Err why
    → desk pen moduli file ≡ refuse place (desk pen moduli file) pen.answer
unfolding refuse
refuse_off place pen moduli file e = sym (ap (refuse place (desk pen moduli file)) e)

-- an item that makes a wire has room for it
module _ {pen : Pen} {moduli : List ℕ} (s : Steady pen moduli) where
  front : length (take pen.made moduli) ≡ pen.made
  front = length-take-le pen.made moduli (omega arith)

  made_below : length (take pen.made moduli) < 1024 → pen.made < 1024
  made_below h = omega (arith, h, front)

  pub room_for :
      (item : Item) {wire : Wire} {then : Due}
      → judged (take pen.made moduli) pen.given pen.at pen.due item ≡ Makes wire then
      → pen.made < 1024
  room_for item e =
      made_below
      (makes_room (subst (Judged (take pen.made moduli) pen.given pen.at pen.due item) e (judging (take pen.made moduli) pen.given pen.at pen.due item))
      (λ bit b. let h : pen.made < 1024 = s.choosing bit b in omega (arith, h, front)))

  pub room_of : (item : Item) {step : Step} → step ≡ judged (take pen.made moduli) pen.given pen.at pen.due item → RoomFor step pen moduli
  room_of item j = record { room = λ wire then e. omega (arith, room_for item (sym j ∙ e), s.room) }

-- what an item leaves is steady again, and the file has one word more at most
module _ (place : ℕ) (item : Item) {pen : Pen} {moduli : List ℕ} (s : Steady pen moduli) where
  abbrev here : Step
  here = judged (take pen.made moduli) pen.given pen.at pen.due item

  went : {step : Step} → here ≡ step → Judged (take pen.made moduli) pen.given pen.at pen.due item step
  went e = subst (Judged (take pen.made moduli) pen.given pen.at pen.due item) e (judging (take pen.made moduli) pen.given pen.at pen.due item)

  pub steady-after : (step : Step) → here ≡ step → Steady (pen_after place pen step) (moduli_after moduli pen.made step)
  steady-after (Step.Refused reason) e = record { room = s.room; made = s.made; given = s.given; choosing = s.choosing }
  steady-after (Makes wire then) e =
      record {
        room = length-set moduli pen.made wire.modulus ∙ s.room;
        made = omega (arith, room_for s item e);
        given = s.given;
        choosing = λ bit f. absurd (makes_plain (went e) bit f);
      }
  steady-after (Goes then) e =
      record { room = s.room; made = s.made; given = s.given; choosing = λ bit f. made_below s (goes_room (went e) bit f) }
  steady-after (Gives wire) e =
      record { room = s.room; made = s.made; given = omega (arith, gives_room (went e)); choosing = λ bit f. absurd (not-outputs f) }
  steady-after Ends e = record { room = s.room; made = s.made; given = s.given; choosing = s.choosing }

pub at_after : (place : ℕ) (pen : Pen) (step : Step) → (pen_after place pen step).at ≤ pen.at + 1
at_after place pen (Step.Refused reason) = omega arith
at_after place pen (Makes wire then) = le_refl (pen.at + 1)
at_after place pen (Goes then) = le_refl (pen.at + 1)
at_after place pen (Gives wire) = le_refl (pen.at + 1)
at_after place pen Ends = le_refl (pen.at + 1)

module _ (lay : Bool) (place : ℕ) (item : Item) (d : Desk) where
  steady_on :
      (answer : Answer) → Steady d.pen d.moduli → Steady (item_on lay place item d answer).pen (item_on lay place item d answer).moduli
  unfolding item_on
  steady_on (Ok done) s = steady-after place item s (judged (take d.pen.made d.moduli) d.pen.given d.pen.at d.pen.due item) refl
  steady_on (Err why) s = s

  at_on : (answer : Answer) → (item_on lay place item d answer).pen.at ≤ d.pen.at + 1
  unfolding item_on
  at_on (Ok done) = at_after place d.pen (judged (take d.pen.made d.moduli) d.pen.given d.pen.at d.pen.due item)
  at_on (Err why) = omega arith

  module _ {pen : Pen} {moduli file : List ℕ} (e : desk pen moduli file ≡ lay_item lay place item d) where
    pub steady-laid : Steady d.pen d.moduli → Steady pen moduli
    steady-laid s = subst (λ (k : Desk). Steady k.pen k.moduli) (sym e) (steady_on d.pen.answer s)

    pub at-laid : pen.at ≤ d.pen.at + 1
    at-laid = subst (λ (k : Desk). k.pen.at ≤ d.pen.at + 1) (sym e) (at_on d.pen.answer)

-- between two records the file is far from full
pub near_enough : {pen : Pen} {moduli : List ℕ} → Ready pen moduli → pen.at < 899999
near_enough r = omega arith
