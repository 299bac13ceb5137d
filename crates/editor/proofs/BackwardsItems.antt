-- What an item that is not refused did, by what was due: the few things that can happen between a record and the next, told by the record that stands for
-- it.
-- Assumes nothing.
use mathlib.Core.Path.{◌≡◌, refl}
use mathlib.Core.Bool.{Bool, true, false}
use mathlib.Core.List.{List, [], ◌∷◌}
use Prim.Native.Nat.{ℕ, ◌+◌, ◌<◌}
use lib.ListN.{length, get_or}
use borrow.Author.Tests.{ltb-true}
use Rattle.checks.specs.declared.Refusal.{Refusal}
use Rattle.words.specs.Items.{check, judged, input_due, gate_due, output_due, after_entry, wire_of, pair_of, entry_item, branches_item}
use Rattle.words.specs.declared.gate.Gate.TheVariants.{Input, Add, Scale, Multiply, Project, Select}
use Rattle.words.specs.declared.gate.Wire.{Wire}
use Rattle.words.specs.declared.gate.Due.{Due}
use Rattle.words.specs.declared.gate.Due.TheVariants.{Inputs, Gates, Outputs, Entries, Branches}
use Rattle.words.specs.declared.gate.Step.{Step}
use Rattle.words.specs.declared.gate.Step.TheVariants.{Refused, Makes, Goes, Gives, Ends}
use Rattle.words.specs.declared.item.Item.{Item}
use Rattle.circuit.proofs.State.{not-true}
use Rattle.writer.specs.Says.{items, spoken, speech_of}
use Rattle.writer.specs.Listed.{wire_record, table_of}

-- a wire of one word: its record says the word's item alone, and it has no table
pub record Single (wire : Wire) (x : Item) : Type 0 where
  pub says : (moduli tables : List ℕ) → speech_of moduli tables (wire_record wire) ≡ items (x ∷ []) tables
  pub plain : (file : List ℕ) (all : List Wire) → table_of file all wire.gate ≡ []

single_input : (owner modulus : ℕ) → Single (wire_of (Input (record { owner = owner })) modulus) (Item.Input owner modulus)
unfolding spoken
single_input owner modulus = record { says = λ moduli tables. refl; plain = λ file all. refl }

single_add : (a b modulus : ℕ) → Single (wire_of (Add (pair_of a b)) modulus) (Item.Add a b)
unfolding spoken
single_add a b modulus = record { says = λ moduli tables. refl; plain = λ file all. refl }

single_scale : (constant a modulus : ℕ) → Single (wire_of (Scale (record { constant = constant; a = a })) modulus) (Item.Scale constant a)
unfolding spoken
single_scale constant a modulus = record { says = λ moduli tables. refl; plain = λ file all. refl }

single_multiply : (a b modulus : ℕ) → Single (wire_of (Multiply (pair_of a b)) modulus) (Item.Multiply a b)
unfolding spoken
single_multiply a b modulus = record { says = λ moduli tables. refl; plain = λ file all. refl }

-- Between records gates, or outputs alone, or entries or branches are due. An item makes a wire of its own, begins a table or a selection, goes on in it, gives
-- an output, or ends.
pub data Does (moduli : List ℕ) (at : ℕ) : Due → Item → Step → Type 0 where
  refused : {due : Due} {x : Item} {reason : Refusal} → Does moduli at due x (Refused reason)
  makes : {due next : Due} {x : Item} {wire : Wire} → gate_due due ≡ true → gate_due next ≡ true → Single wire x → Does moduli at due x (Makes wire next)
  projects :
      {due : Due} {q a : ℕ}
      → gate_due due ≡ true
      → a < length moduli
      → Does moduli at due (Item.Project q a) (Makes (wire_of (Project (record { a = a; table = at + 1 })) q) (Entries (get_or moduli a 0) q))
  enters : {left q i : ℕ} → Does moduli at (Entries left q) (Item.Entry i) (Goes (after_entry left q))
  selects : {due : Due} {bit : ℕ} → gate_due due ≡ true → Does moduli at due (Item.Select bit) (Goes (Branches bit))
  chooses :
      {bit a b modulus : ℕ} → Does moduli at (Branches bit) (Item.Branches a b) (Makes (wire_of (Select (record { bit = bit; a = a; b = b })) modulus) Gates)
  gives : {due : Due} {named a : ℕ} → output_due due ≡ true → Does moduli at due (Item.Output named a) (Gives a)
  ends : {due : Due} → output_due due ≡ true → Does moduli at due Item.End Ends

-- where inputs are due, gates are; and where gates are, outputs are
input-gate : (due : Due) → input_due due ≡ true → gate_due due ≡ true
input-gate Inputs e = refl
input-gate Gates e = not-true e
input-gate Outputs e = not-true e
input-gate (Entries left modulus) e = not-true e
input-gate (Branches bit) e = not-true e

pub gate_output : (due : Due) → gate_due due ≡ true → output_due due ≡ true
gate_output Inputs e = refl
gate_output Gates e = refl
gate_output Outputs e = not-true e
gate_output (Entries left modulus) e = not-true e
gate_output (Branches bit) e = not-true e

module _ {moduli : List ℕ} {at : ℕ} where
  checked : {due : Due} {x : Item} {next : Step} (b : Bool) (reason : Refusal) → (b ≡ true → Does moduli at due x next) → Does moduli at due x (check b reason next)
  unfolding check
  checked true reason f = f refl
  checked false reason f = refused

  -- an entry and a branches item go by what is due
  entry_where : (due : Due) (i : ℕ) → Does moduli at due (Item.Entry i) (entry_item due i)
  entry_where Inputs i = refused
  entry_where Gates i = refused
  entry_where Outputs i = refused
  entry_where (Entries left modulus) i = checked _ _ λ fits. enters
  entry_where (Branches bit) i = refused

  branches_where : (due : Due) (a b : ℕ) → Does moduli at due (Item.Branches a b) (branches_item moduli due a b)
  branches_where Inputs a b = refused
  branches_where Gates a b = refused
  branches_where Outputs a b = refused
  branches_where (Entries left modulus) a b = refused
  branches_where (Branches bit) a b = checked _ _ λ made. checked _ _ λ same. chooses

pub did_so : (moduli : List ℕ) (given at : ℕ) (due : Due) (x : Item) → Does moduli at due x (judged moduli given at due x)
did_so moduli given at due Item.Head = refused
did_so moduli given at due (Item.Input owner modulus) =
    checked _ _ λ here. checked _ _ λ prime. checked _ _ λ own. checked _ _ λ room. makes (input-gate due here) refl (single_input owner modulus)
did_so moduli given at due (Item.Add a b) =
    checked _ _ λ here. checked _ _ λ made. checked _ _ λ same. checked _ _ λ room. makes here refl (single_add a b _)
did_so moduli given at due (Item.Scale constant a) =
    checked _ _ λ here. checked _ _ λ made. checked _ _ λ range. checked _ _ λ room. makes here refl (single_scale constant a _)
did_so moduli given at due (Item.Multiply a b) =
    checked _ _ λ here. checked _ _ λ made. checked _ _ λ same. checked _ _ λ room. makes here refl (single_multiply a b _)
did_so moduli given at due (Item.Project modulus a) =
    checked _ _ λ here. checked _ _ λ prime. checked _ _ λ made. checked _ _ λ room. projects here (ltb-true a (length moduli) made)
did_so moduli given at due (Item.Entry i) = entry_where due i
did_so moduli given at due (Item.Select bit) =
    checked _ _ λ here. checked _ _ λ made. checked _ _ λ two. checked _ _ λ room. selects here
did_so moduli given at due (Item.Branches a b) = branches_where due a b
did_so moduli given at due (Item.Output named a) = checked _ _ λ here. checked _ _ λ made. checked _ _ λ room. gives here
did_so moduli given at due Item.End = checked _ _ λ here. checked _ _ λ some. ends here
