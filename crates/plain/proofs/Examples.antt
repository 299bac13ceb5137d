-- A product of two inputs modulo 5, from the bytes of its file, computed from the definitions: what the call answers, and what it writes.
-- Assumes nothing.
use mathlib.Core.Path.{◌≡◌, refl}
use mathlib.Core.List.{List, [], ◌∷◌}
use Prim.Native.Nat.{ℕ}
use Rattle.residue.specs.Prime.{is_prime, remainders_below}
use Rattle.residue.specs.Residue.{add, mul}
use Rattle.checks.specs.declared.Refusal.TheVariants.{WrongLength, ValueTooLarge, NoHead}
use Rattle.checks.specs.Checked.{and_then, unless, none_bad}
use Rattle.words.specs.Items.{check}
use Rattle.words.specs.Reading.{said, read_word}
use Rattle.circuit.specs.Wires.{inputs_in}
use Rattle.circuit.specs.File.{read_file, headed, read_from, ended}
use Rattle.circuit.specs.File.{after as after_word}
use Rattle.lists.specs.Blocks.{blocks}
use Rattle.lists.specs.First.{first, first_from}
use Rattle.lists.specs.Grown.{grown, extended}
use Rattle.session.specs.Session.{lengths_checked, same_numbers, values_checked}
use Rattle.plain.specs.Plain.{plain_by, plain_to, plain_values, plain_outputs}
use Rattle.plain.specs.Call.{plain_checked}
use Rattle.checks.specs.Answer.{accepts, refuses}

-- head, an input of party 0, an input of party 1, their product, its output, end
file : List ℕ
file =
    0 ∷ 0 ∷ 0 ∷ 0x10
    ∷ 5 ∷ 0 ∷ 0 ∷ 0x20
    ∷ 5 ∷ 0 ∷ 1 ∷ 0x20
    ∷ 1 ∷ 0 ∷ 0 ∷ 0x50
    ∷ 2 ∷ 0 ∷ 0 ∷ 0xA0
    ∷ 0 ∷ 0 ∷ 0 ∷ 0xB0
    ∷ []

accepted : plain_checked file (3 ∷ 4 ∷ []) (0 ∷ []) ≡ accepts
unfolding file read_file headed read_from ended after_word read_word said check is_prime remainders_below plain_checked lengths_checked same_numbers values_checked inputs_in none_bad first first_from unless and_then
accepted = refl

outputs : plain_outputs file (read_file file).wires (read_file file).outputs (3 ∷ 4 ∷ []) ≡ 2 ∷ []
unfolding file read_file headed read_from ended after_word read_word said check is_prime remainders_below blocks plain_outputs plain_values plain_to plain_by grown extended add mul
outputs = refl

one_value : plain_checked file (3 ∷ []) (0 ∷ []) ≡ refuses WrongLength 0
unfolding file read_file headed read_from ended after_word read_word said check is_prime remainders_below plain_checked lengths_checked same_numbers values_checked inputs_in none_bad first first_from unless and_then
one_value = refl

too_large : plain_checked file (3 ∷ 5 ∷ []) (0 ∷ []) ≡ refuses ValueTooLarge 1
unfolding file read_file headed read_from ended after_word read_word said check is_prime remainders_below plain_checked lengths_checked same_numbers values_checked inputs_in none_bad first first_from unless and_then
too_large = refl

no_file : plain_checked [] (3 ∷ 5 ∷ []) (0 ∷ []) ≡ refuses NoHead 0
unfolding read_file headed plain_checked lengths_checked same_numbers values_checked inputs_in none_bad first first_from unless and_then
no_file = refl
