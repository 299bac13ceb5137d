-- What an item that is not refused has been through, item by item: what it did, and the checks that it passed. A proof about every item goes by these
-- cases instead of by the checks of the definition.
-- Assumes nothing.
use mathlib.Core.Path.{◌≡◌, refl}
use mathlib.Core.Bool.{Bool, true, false, ◌&&◌}
use mathlib.Core.List.{List}
use Prim.Native.Nat.{ℕ, ◌+◌, ◌<◌}
use lib.Dec.{ltb, eqb}
use lib.ListN.{length, get_or}
use native.Mathlib.Omega.{arith}
use borrow.Author.Tests.{leb-true, ltb-true, eqb-true}
use Rattle.residue.specs.Prime.{is_prime}
use Rattle.residue.proofs.Table.{and_left, and_right}
use Rattle.checks.specs.declared.Refusal.{Refusal}
use Rattle.words.specs.Items.{check, judged, is_modulus, input_due, gate_due, output_due, after_entry, wire_of, pair_of}
use Rattle.words.specs.declared.gate.Gate.TheVariants.{Input, Add, Scale, Multiply, Project, Select}
use Rattle.words.specs.declared.gate.Due.{Due}
use Rattle.words.specs.declared.gate.Due.TheVariants.{Inputs, Gates, Outputs, Entries, Branches}
use Rattle.words.specs.declared.gate.Step.{Step}
use Rattle.words.specs.declared.gate.Step.TheVariants.{Refused, Makes, Goes, Gives, Ends}
use Rattle.words.specs.declared.item.Item.{Item}
use Rattle.words.proofs.Steps.{modulus-byte}

-- an input or a gate may stand here, and there is room for its wire
pub record Room (here : Bool) (made : ℕ) : Type 0 where
  pub due : here ≡ true
  pub room : made < 1024

-- two wires that are made, of one modulus
pub record Two (moduli : List ℕ) (a b : ℕ) : Type 0 where
  pub first : a < length moduli
  pub second : b < length moduli
  pub same : get_or moduli a 0 ≡ get_or moduli b 0

-- one of the moduli
pub record Modulus (p : ℕ) : Type 0 where
  pub byte : p < 256
  pub positive : 0 < p

pub data Judged (moduli : List ℕ) (given at : ℕ) : Due → Item → Step → Type 0 where
  refused : {due : Due} {x : Item} {reason : Refusal} → Judged moduli given at due x (Refused reason)
  input :
      {due : Due} {owner modulus : ℕ}
      → Room (input_due due) (length moduli)
      → Modulus modulus
      → owner < 8
      → Judged moduli given at due (Item.Input owner modulus) (Makes (wire_of (Input (record { owner = owner })) modulus) Inputs)
  add :
      {due : Due} {a b : ℕ}
      → Room (gate_due due) (length moduli)
      → Two moduli a b
      → Judged moduli given at due (Item.Add a b) (Makes (wire_of (Add (pair_of a b)) (get_or moduli a 0)) Gates)
  multiply :
      {due : Due} {a b : ℕ}
      → Room (gate_due due) (length moduli)
      → Two moduli a b
      → Judged moduli given at due (Item.Multiply a b) (Makes (wire_of (Multiply (pair_of a b)) (get_or moduli a 0)) Gates)
  scale :
      {due : Due} {constant a : ℕ}
      → Room (gate_due due) (length moduli)
      → a < length moduli
      → constant < get_or moduli a 0
      → Judged moduli given at due (Item.Scale constant a) (Makes (wire_of (Scale (record { constant = constant; a = a })) (get_or moduli a 0)) Gates)
  project :
      {due : Due} {modulus a : ℕ}
      → Room (gate_due due) (length moduli)
      → Modulus modulus
      → a < length moduli
      → Judged moduli given at due (Item.Project modulus a)
      (Makes (wire_of (Project (record { a = a; table = at + 1 })) modulus) (Entries (get_or moduli a 0) modulus))
  entry :
      {left modulus image : ℕ}
      → image < modulus
      → Judged moduli given at (Entries left modulus) (Item.Entry image) (Goes (after_entry left modulus))
  select :
      {due : Due} {bit : ℕ}
      → Room (gate_due due) (length moduli)
      → bit < length moduli
      → Judged moduli given at due (Item.Select bit) (Goes (Branches bit))
  branches :
      {bit a b : ℕ}
      → Two moduli a b
      → Judged moduli given at (Branches bit) (Item.Branches a b)
      (Makes (wire_of (Select (record { bit = bit; a = a; b = b })) (get_or moduli a 0)) Gates)
  output :
      {due : Due} {named a : ℕ}
      → output_due due ≡ true
      → a < length moduli
      → given < 256
      → Judged moduli given at due (Item.Output named a) (Gives a)
  end : {due : Due} → output_due due ≡ true → Judged moduli given at due Item.End Ends

module _ {moduli : List ℕ} {given at : ℕ} {due : Due} {x : Item} where
  checked : {next : Step} (b : Bool) (reason : Refusal) → (b ≡ true → Judged moduli given at due x next) → Judged moduli given at due x (check b reason next)
  unfolding check
  checked true reason f = f refl
  checked false reason f = Judged.refused

a-modulus : (p : ℕ) → is_modulus p ≡ true → Modulus p
unfolding is_prime
a-modulus p e = record { byte = modulus-byte p e; positive = omega (arith, leb-true 2 p (and_left _ _ (and_right (ltb p 256) _ e))) }

pub room : (here : Bool) (made : ℕ) → here ≡ true → ltb made 1024 ≡ true → Room here made
room here made h e = record { due = h; room = ltb-true made 1024 e }

pub two :
    (moduli : List ℕ) (a b : ℕ)
    → (ltb a (length moduli) && ltb b (length moduli)) ≡ true
    → eqb (get_or moduli a 0) (get_or moduli b 0) ≡ true
    → Two moduli a b
two moduli a b e f =
    record {
      first = ltb-true a (length moduli) (and_left _ (ltb b (length moduli)) e);
      second = ltb-true b (length moduli) (and_right (ltb a (length moduli)) _ e);
      same = eqb-true (get_or moduli a 0) (get_or moduli b 0) f;
    }

module _ (moduli : List ℕ) (given at : ℕ) where
  entry_where : (due : Due) (image : ℕ) → Judged moduli given at due (Item.Entry image) (judged moduli given at due (Item.Entry image))
  entry_where Inputs image = Judged.refused
  entry_where Gates image = Judged.refused
  entry_where Outputs image = Judged.refused
  entry_where (Entries left modulus) image = checked _ _ λ fits. Judged.entry (ltb-true image modulus fits)
  entry_where (Branches bit) image = Judged.refused

  branches_where : (due : Due) (a b : ℕ) → Judged moduli given at due (Item.Branches a b) (judged moduli given at due (Item.Branches a b))
  branches_where Inputs a b = Judged.refused
  branches_where Gates a b = Judged.refused
  branches_where Outputs a b = Judged.refused
  branches_where (Entries left modulus) a b = Judged.refused
  branches_where (Branches bit) a b = checked _ _ λ made. checked _ _ λ same. Judged.branches (two moduli a b made same)

  pub judging : (due : Due) (x : Item) → Judged moduli given at due x (judged moduli given at due x)
  judging due Item.Head = Judged.refused
  judging due (Item.Input owner modulus) =
      checked _ _ λ here. checked _ _ λ prime. checked _ _ λ party. checked _ _ λ space.
      Judged.input (room _ _ here space) (a-modulus modulus prime) (ltb-true owner 8 party)
  judging due (Item.Add a b) =
      checked _ _ λ here. checked _ _ λ made. checked _ _ λ same. checked _ _ λ space. Judged.add (room _ _ here space) (two moduli a b made same)
  judging due (Item.Scale constant a) =
      checked _ _ λ here. checked _ _ λ made. checked _ _ λ range. checked _ _ λ space.
      Judged.scale (room _ _ here space) (ltb-true a (length moduli) made) (ltb-true constant (get_or moduli a 0) (and_right (ltb 0 constant) _ range))
  judging due (Item.Multiply a b) =
      checked _ _ λ here. checked _ _ λ made. checked _ _ λ same. checked _ _ λ space. Judged.multiply (room _ _ here space) (two moduli a b made same)
  judging due (Item.Project modulus a) =
      checked _ _ λ here. checked _ _ λ prime. checked _ _ λ made. checked _ _ λ space.
      Judged.project (room _ _ here space) (a-modulus modulus prime) (ltb-true a (length moduli) made)
  judging due (Item.Entry image) = entry_where due image
  judging due (Item.Select bit) =
      checked _ _ λ here. checked _ _ λ made. checked _ _ λ binary. checked _ _ λ space.
      Judged.select (room _ _ here space) (ltb-true bit (length moduli) made)
  judging due (Item.Branches a b) = branches_where due a b
  judging due (Item.Output named a) = checked _ _ λ here. checked _ _ λ made. checked _ _ λ space. Judged.output here (ltb-true a (length moduli) made) (ltb-true given 256 space)
  judging due Item.End = checked _ _ λ here. checked _ _ λ some. Judged.end here
