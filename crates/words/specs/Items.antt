-- Document 01, "The circuit file" and "Where each check stands": what is said at a place of the file (a kind with its fields, here an
-- item), and what it does where it stands. Its checks stand in the order of their numbers, 3 to 9, and go by the fields' values, of any size: a
-- word's fields are as wide as its bits, a record's are not.
-- Assumes nothing.
use Rattle.std.specs.Prelude.{Bool, true, false, ◌&&◌, List, ℕ, zero, suc, ◌+◌, eqb, ltb, length, get_or}
use Rattle.residue.specs.Prime.{is_prime}
use Rattle.checks.specs.declared.Refusal.{Refusal}
use Rattle.checks.specs.declared.Refusal.TheVariants.{NotDue, NotPrime, NotMade, ModuliDiffer, OutOfRange, TooMany, NoOutput}
use Rattle.words.specs.declared.gate.Pair.{Pair}
use Rattle.words.specs.declared.gate.Gate.{Gate}
use Rattle.words.specs.declared.gate.Gate.TheVariants.{Input, Add, Scale, Multiply, Project, Select}
use Rattle.words.specs.declared.gate.Wire.{Wire}
use Rattle.words.specs.declared.gate.Due.{Due}
use Rattle.words.specs.declared.gate.Due.TheVariants.{Inputs, Gates, Outputs, Entries, Branches}
use Rattle.words.specs.declared.gate.Step.{Step}
use Rattle.words.specs.declared.gate.Step.TheVariants.{Refused, Makes, Goes, Gives, Ends}
use Rattle.words.specs.declared.item.Item.{Item}

-- where a check fails the item is refused; where it holds the next one is made
unfoldable pub check : Bool → Refusal → Step → Step
check true reason next = next
check false reason next = Refused reason

-- head, inputs, gates, outputs, end, in this order; each of the three middle runs may be empty
abbrev pub input_due : Due → Bool
input_due Inputs = true
input_due Gates = false
input_due Outputs = false
input_due (Entries left modulus) = false
input_due (Branches bit) = false

abbrev pub gate_due : Due → Bool
gate_due Inputs = true
gate_due Gates = true
gate_due Outputs = false
gate_due (Entries left modulus) = false
gate_due (Branches bit) = false

abbrev pub output_due : Due → Bool
output_due Inputs = true
output_due Gates = true
output_due Outputs = true
output_due (Entries left modulus) = false
output_due (Branches bit) = false

-- the end is due wherever no entry or branches word is: where an output is
abbrev pub end_due : Due → Bool
end_due due = output_due due

-- what is due after one of so many entries: the others, or gates after the last
unfoldable pub after_entry : ℕ → ℕ → Due
after_entry zero modulus = Gates
after_entry (suc zero) modulus = Gates
after_entry (suc (suc others)) modulus = Entries (suc others) modulus

-- a wire of a gate and a modulus
abbrev pub wire_of : Gate → ℕ → Wire
wire_of gate modulus = record { gate = gate; modulus = modulus }

-- two wires a and b
abbrev pub pair_of : ℕ → ℕ → Pair
pair_of a b = record { a = a; b = b }

-- a modulus is one of the primes from 2 to 251 (257 is prime and no modulus)
abbrev pub is_modulus : ℕ → Bool
is_modulus p = ltb p 256 && is_prime p

-- The kinds of items. The wires made so far have these moduli, and the wire being made has the number that they are.
abbrev is_made : List ℕ → ℕ → Bool
is_made moduli wire = ltb wire (length moduli)

abbrev modulus_of : List ℕ → ℕ → ℕ
modulus_of moduli wire = get_or moduli wire 0

-- input, where so many wires are made
abbrev pub input_item : ℕ → Due → ℕ → ℕ → Step
input_item made due owner modulus =
    check (input_due due) NotDue
    (check (is_modulus modulus) NotPrime
    (check (ltb owner 8) OutOfRange
    (check (ltb made 1024) TooMany
    (Makes (wire_of (Input (record { owner = owner })) modulus) Inputs))))

-- add and multiply
abbrev pub pair_item : List ℕ → Due → Gate → ℕ → ℕ → Step
pair_item moduli due gate a b =
    check (gate_due due) NotDue
    (check (is_made moduli a && is_made moduli b) NotMade
    (check (eqb (modulus_of moduli a) (modulus_of moduli b)) ModuliDiffer
    (check (ltb (length moduli) 1024) TooMany
    (Makes (wire_of gate (modulus_of moduli a)) Gates))))

-- scale
abbrev pub scale_item : List ℕ → Due → ℕ → ℕ → Step
scale_item moduli due constant a =
    check (gate_due due) NotDue
    (check (is_made moduli a) NotMade
    (check (ltb 0 constant && ltb constant (modulus_of moduli a)) OutOfRange
    (check (ltb (length moduli) 1024) TooMany
    (Makes (wire_of (Scale (record { constant = constant; a = a })) (modulus_of moduli a)) Gates))))

-- project, at an index of the file; the entries stand in the words that follow, one for each value of the wire
abbrev pub project_item : List ℕ → ℕ → Due → ℕ → ℕ → Step
project_item moduli at due modulus a =
    check (gate_due due) NotDue
    (check (is_modulus modulus) NotPrime
    (check (is_made moduli a) NotMade
    (check (ltb (length moduli) 1024) TooMany
    (Makes (wire_of (Project (record { a = a; table = at + 1 })) modulus) (Entries (modulus_of moduli a) modulus)))))

-- entry: the image of a value, where entries are due
abbrev pub entry_item : Due → ℕ → Step
entry_item Inputs image = Refused NotDue
entry_item Gates image = Refused NotDue
entry_item Outputs image = Refused NotDue
entry_item (Entries left modulus) image = check (ltb image modulus) OutOfRange (Goes (after_entry left modulus))
entry_item (Branches bit) image = Refused NotDue

-- select: the wire is counted here, and made by the branches that follow
abbrev pub select_item : List ℕ → Due → ℕ → Step
select_item moduli due bit =
    check (gate_due due) NotDue
    (check (is_made moduli bit) NotMade
    (check (eqb (modulus_of moduli bit) 2) ModuliDiffer
    (check (ltb (length moduli) 1024) TooMany
    (Goes (Branches bit)))))

-- branches: the wires of a selection by a bit, where they are due
abbrev pub branches_item : List ℕ → Due → ℕ → ℕ → Step
branches_item moduli Inputs a b = Refused NotDue
branches_item moduli Gates a b = Refused NotDue
branches_item moduli Outputs a b = Refused NotDue
branches_item moduli (Entries left modulus) a b = Refused NotDue
branches_item moduli (Branches bit) a b =
    check (is_made moduli a && is_made moduli b) NotMade
    (check (eqb (modulus_of moduli a) (modulus_of moduli b)) ModuliDiffer
    (Makes (wire_of (Select (record { bit = bit; a = a; b = b })) (modulus_of moduli a)) Gates))

-- output, where so many are given; it may name any parties
abbrev pub output_item : List ℕ → ℕ → Due → ℕ → Step
output_item moduli given due a =
    check (output_due due) NotDue
    (check (is_made moduli a) NotMade
    (check (ltb given 256) TooMany
    (Gives a)))

-- end
abbrev pub end_item : ℕ → Due → Step
end_item given due =
    check (end_due due) NotDue
    (check (ltb 0 given) NoOutput
    Ends)

-- What an item does at an index `at`, where the wires made so far have these moduli, `given` outputs are given, and `due` is due. A head is due in
-- the first word alone, which is not judged here.
abbrev pub judged : List ℕ → ℕ → ℕ → Due → Item → Step
judged moduli given at due Item.Head = Refused NotDue
judged moduli given at due (Item.Input owner modulus) = input_item (length moduli) due owner modulus
judged moduli given at due (Item.Add a b) = pair_item moduli due (Add (pair_of a b)) a b
judged moduli given at due (Item.Scale constant a) = scale_item moduli due constant a
judged moduli given at due (Item.Multiply a b) = pair_item moduli due (Multiply (pair_of a b)) a b
judged moduli given at due (Item.Project modulus a) = project_item moduli at due modulus a
judged moduli given at due (Item.Entry image) = entry_item due image
judged moduli given at due (Item.Select bit) = select_item moduli due bit
judged moduli given at due (Item.Branches a b) = branches_item moduli due a b
judged moduli given at due (Item.Output named a) = output_item moduli given due a
judged moduli given at due Item.End = end_item given due
