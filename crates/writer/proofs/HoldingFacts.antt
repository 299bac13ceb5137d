-- What an item that is not refused shows: that its fields fit, that there is room for its wire, and what is due after it.
-- Assumes nothing.
use mathlib.Core.Path.{◌≡◌, refl, sym, ap, subst, ◌∙◌}
use mathlib.Core.Bool.{Bool, true, false, true≢false}
use mathlib.Core.List.{List}
use Prim.Native.Nat.{ℕ, zero, suc, ◌≤◌, ◌<◌}
use native.Mathlib.Omega.{arith}
use lib.ListN.{length, get_or}
use Rattle.words.specs.declared.gate.Wire.{Wire}
use Rattle.words.specs.declared.gate.Due.{Due}
use Rattle.words.specs.declared.gate.Due.TheVariants.{Inputs, Gates, Outputs, Entries, Branches}
use Rattle.words.specs.declared.gate.Step.TheVariants.{Makes, Goes, Gives, Ends}
use Rattle.words.specs.declared.item.Item.{Item}
use Rattle.words.specs.Items.{after_entry}
use Rattle.words.specs.Fits.{Fits}
use Rattle.words.proofs.Judged.{Judged}

-- what is due is branches, and the modulus of a table that is due
abbrev is_choice : Due → Bool
is_choice Inputs = false
is_choice Gates = false
is_choice Outputs = false
is_choice (Entries left modulus) = false
is_choice (Branches bit) = true

abbrev modulus_due : Due → ℕ
modulus_due Inputs = 0
modulus_due Gates = 0
modulus_due Outputs = 0
modulus_due (Entries left modulus) = modulus
modulus_due (Branches bit) = 0

pub no_choice : {A : Type 0} {due : Due} {bit : ℕ} → is_choice due ≡ false → due ≡ Branches bit → A
no_choice f e = absurd (true≢false (sym (ap is_choice e) ∙ f))

table_of : {due : Due} {left modulus m : ℕ} → modulus_due due ≡ m → m < 256 → due ≡ Entries left modulus → modulus < 256
table_of {modulus = modulus} f h e = subst (λ (n : ℕ). n < 256) (sym f ∙ ap modulus_due e) h

-- after an entry a table of the same modulus is due, or gates
after_choice : (left modulus : ℕ) → is_choice (after_entry left modulus) ≡ false
unfolding after_entry
after_choice zero modulus = refl
after_choice (suc zero) modulus = refl
after_choice (suc (suc left)) modulus = refl

after-modulus : (left modulus : ℕ) → modulus < 256 → modulus_due (after_entry left modulus) < 256
unfolding after_entry
after-modulus zero modulus h = omega arith
after-modulus (suc zero) modulus h = omega arith
after-modulus (suc (suc left)) modulus h = h

-- a wire that is made has room, and branches are not due after it; branches are due only where there is room for their wire; an output that is given has room
module _ {moduli : List ℕ} {given at : ℕ} where
  pub makes_room : {due then : Due} {x : Item} {wire : Wire} → Judged moduli given at due x (Makes wire then) → ((bit : ℕ) → due ≡ Branches bit → length moduli < 1024) → length moduli < 1024
  makes_room (Judged.input r m o) h = r.room
  makes_room (Judged.add r t) h = r.room
  makes_room (Judged.multiply r t) h = r.room
  makes_room (Judged.scale r a c) h = r.room
  makes_room (Judged.project r m a) h = r.room
  makes_room (Judged.branches {bit = bit} t) h = h bit refl

  pub makes_plain : {due then : Due} {x : Item} {wire : Wire} → Judged moduli given at due x (Makes wire then) → (bit : ℕ) → then ≡ Branches bit → ⊥
  makes_plain (Judged.input r m o) bit = no_choice refl
  makes_plain (Judged.add r t) bit = no_choice refl
  makes_plain (Judged.multiply r t) bit = no_choice refl
  makes_plain (Judged.scale r a c) bit = no_choice refl
  makes_plain (Judged.project r m a) bit = no_choice refl
  makes_plain (Judged.branches t) bit = no_choice refl

  pub goes_room : {due then : Due} {x : Item} → Judged moduli given at due x (Goes then) → (bit : ℕ) → then ≡ Branches bit → length moduli < 1024
  goes_room (Judged.entry {left = left} {modulus = modulus} i) bit e = no_choice (after_choice left modulus) e
  goes_room (Judged.select r b) bit e = r.room

  pub gives_room : {due : Due} {x : Item} {a : ℕ} → Judged moduli given at due x (Gives a) → given < 256
  gives_room (Judged.output due a room) = room

-- what is due next: branches only where there is room for their wire, a table only below a byte
pub record DueNext (moduli : List ℕ) (due : Due) : Type 0 where
  pub choosing : (bit : ℕ) → due ≡ Branches bit → length moduli < 1024
  pub entries : (left modulus : ℕ) → due ≡ Entries left modulus → modulus < 256

next-plain : {moduli : List ℕ} {due : Due} → is_choice due ≡ false → modulus_due due < 256 → DueNext moduli due
next-plain f h = record { choosing = λ bit e. no_choice f e; entries = λ left modulus e. table_of refl h e }

pub record Made (moduli : List ℕ) (x : Item) (wire : Wire) (due : Due) : Type 0 where
  pub fits : Fits x
  pub room : length moduli < 1024
  pub byte : wire.modulus < 256
  pub positive : 0 < wire.modulus
  pub plain : is_choice due ≡ false
  pub entries : modulus_due due < 256

pub record Gone (moduli : List ℕ) (x : Item) (due : Due) : Type 0 where
  pub fits : Fits x
  pub next : DueNext moduli due

-- the parties that an item names: those of an output. The judging does not bound them, so who lays an item shows that they are a byte
abbrev pub parties_in : Item → ℕ
parties_in Item.Head = 0
parties_in (Item.Input owner modulus) = 0
parties_in (Item.Add a b) = 0
parties_in (Item.Scale constant a) = 0
parties_in (Item.Multiply a b) = 0
parties_in (Item.Project modulus a) = 0
parties_in (Item.Entry image) = 0
parties_in (Item.Select bit) = 0
parties_in (Item.Branches a b) = 0
parties_in (Item.Output named a) = named
parties_in Item.End = 0

below : (moduli : List ℕ) → length moduli ≤ 1024 → {a : ℕ} → a < length moduli → a < 1024
below moduli few h = omega (arith, few)

module _ (moduli : List ℕ) {given at : ℕ} (few : length moduli ≤ 1024) (byte : (w : ℕ) → w < length moduli → get_or moduli w 0 < 256)
    (positive : (w : ℕ) → w < length moduli → 0 < get_or moduli w 0) where
  pub made_so : {due due' : Due} {x : Item} {wire : Wire} → DueNext moduli due → Judged moduli given at due x (Makes wire due') → Made moduli x wire due'
  made_so n (Judged.input {owner = o} room modulus owner) =
      let h : o < 256 = omega (arith, owner) in
      record { fits = Fits.input h modulus.byte; room = room.room; byte = modulus.byte; positive = modulus.positive; plain = refl; entries = omega arith }
  made_so n (Judged.add room two) =
      record { fits = Fits.add (below moduli few two.first) (below moduli few two.second); room = room.room; byte = byte _ two.first; positive = positive _ two.first; plain = refl; entries = omega arith }
  made_so n (Judged.multiply room two) =
      record { fits = Fits.multiply (below moduli few two.first) (below moduli few two.second); room = room.room; byte = byte _ two.first; positive = positive _ two.first; plain = refl; entries = omega arith }
  made_so n (Judged.scale {constant = c} room a constant) =
      let h : c < 256 = omega (arith, constant, byte _ a) in
      record { fits = Fits.scale h (below moduli few a); room = room.room; byte = byte _ a; positive = positive _ a; plain = refl; entries = omega arith }
  made_so n (Judged.project room modulus a) =
      record { fits = Fits.project modulus.byte (below moduli few a); room = room.room; byte = modulus.byte; positive = modulus.positive; plain = refl; entries = modulus.byte }
  made_so n (Judged.branches two) =
      record { fits = Fits.branches (below moduli few two.first) (below moduli few two.second); room = n.choosing _ refl; byte = byte _ two.first; positive = positive _ two.first; plain = refl; entries = omega arith }

  pub gone_so : {due due' : Due} {x : Item} → DueNext moduli due → Judged moduli given at due x (Goes due') → Gone moduli x due'
  gone_so n (Judged.entry {left = left} {modulus = modulus} {image = i} image) =
      let h : modulus < 256 = n.entries left modulus refl in
      let l : i < 256 = omega (arith, image, h) in
      record { fits = Fits.entry l; next = next-plain (after_choice left modulus) (after-modulus left modulus h) }
  gone_so n (Judged.select room bit) =
      record { fits = Fits.select (below moduli few bit); next = record { choosing = λ b e. room.room; entries = λ left modulus e. absurd (no_table e) } }
    where
      no_table : {bit left modulus : ℕ} → Branches bit ≡ Entries left modulus → ⊥
      no_table e = true≢false (ap is_choice e)

  pub given_so : {due : Due} {x : Item} {a : ℕ} → parties_in x < 256 → Judged moduli given at due x (Gives a) → Fits x × (given < 256)
  given_so byte (Judged.output due a room) = (Fits.output byte (below moduli few a), room)

  pub ended_so : {due : Due} {x : Item} → Judged moduli given at due x Ends → Fits x
  ended_so (Judged.end due) = Fits.end

-- what is due after a wire was made
pub made-next : {moduli ms : List ℕ} {x : Item} {wire : Wire} {due : Due} → Made moduli x wire due → DueNext ms due
made-next m = next-plain m.plain m.entries

pub no_branches : {moduli : List ℕ} {x : Item} {wire : Wire} {due : Due} → Made moduli x wire due → (bit : ℕ) → due ≡ Branches bit → ⊥
no_branches m bit e = no_choice m.plain e

pub not-outputs : {bit : ℕ} → Outputs ≡ Branches bit → ⊥
not-outputs e = no_choice refl e

abbrev is_table : Due → Bool
is_table Inputs = false
is_table Gates = false
is_table Outputs = false
is_table (Entries left modulus) = true
is_table (Branches bit) = false

pub not_table : {left modulus : ℕ} → Outputs ≡ Entries left modulus → ⊥
not_table e = true≢false (ap is_table (sym e))

pub not-gates : {left modulus : ℕ} → Gates ≡ Entries left modulus → ⊥
not-gates e = true≢false (ap is_table (sym e))

pub not-inputs : {left modulus : ℕ} → Inputs ≡ Entries left modulus → ⊥
not-inputs e = true≢false (ap is_table (sym e))
