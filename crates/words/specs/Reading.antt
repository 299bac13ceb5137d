-- Document 01, "The circuit file" and "Where each check stands": what a word says, its kind with its fields, and what it does where it stands. Check 2
-- is on its bits; the others are on what it says.
-- Assumes nothing.
use Rattle.std.specs.Prelude.{Bool, true, false, ◌&&◌, List, [], ◌∷◌, ℕ, get_or}
use Rattle.checks.specs.declared.Refusal.TheVariants.{UnknownWord}
use Rattle.words.specs.Bits.{clear, kind, owner, input_modulus, wire_a, wire_b, named, one_wire, constant, output_modulus, image}
use Rattle.words.specs.Items.{judged}
use Rattle.words.specs.declared.gate.Due.{Due}
use Rattle.words.specs.declared.gate.Step.{Step}
use Rattle.words.specs.declared.gate.Step.TheVariants.{Refused}
use Rattle.words.specs.declared.item.Item.{Item}
use Rattle.words.specs.declared.item.Item.TheVariants.{Head, Input, Add, Scale, Multiply, Project, Entry, Select, Branches, Output, End}

-- what a word says: an item, or nothing, where its kind is unknown or a bit is set that must be zero
pub data Said : Type 0 where
  Nothing : Said
  Says : Item → Said

-- an item, if the bits that must be zero are zero
unfoldable pub said : Bool → Item → Said
said true item = Says item
said false item = Nothing

-- what a word says if it is of kind 0, 1, .. 11
abbrev pub by_kind : ℕ → List Said
by_kind w =
    Nothing
    ∷ said (clear w 27 0) Head
    ∷ said (clear w 27 24 && clear w 15 8) (Input (owner w) (input_modulus w))
    ∷ said (clear w 27 20) (Add (wire_a w) (wire_b w))
    ∷ said (clear w 27 18) (Scale (constant w) (one_wire w))
    ∷ said (clear w 27 20) (Multiply (wire_a w) (wire_b w))
    ∷ said (clear w 27 18) (Project (output_modulus w) (one_wire w))
    ∷ said (clear w 27 8) (Entry (image w))
    ∷ said (clear w 27 10) (Select (one_wire w))
    ∷ said (clear w 27 20) (Branches (wire_a w) (wire_b w))
    ∷ said (clear w 27 18) (Output (named w) (one_wire w))
    ∷ said (clear w 27 0) End
    ∷ []

-- what it says; no kind above 11 is known
abbrev pub said_by : ℕ → Said
said_by w = get_or (by_kind w) (kind w) Nothing

-- What is said at an index `at` does, where the wires made so far have these moduli, `given` outputs are given, and `due` is due.
abbrev pub does : List ℕ → ℕ → ℕ → Due → Said → Step
does moduli given at due Nothing = Refused UnknownWord
does moduli given at due (Says item) = judged moduli given at due item

-- what a word does there
unfoldable pub read_word : List ℕ → ℕ → ℕ → Due → ℕ → Step
read_word moduli given at due w = does moduli given at due (said_by w)
