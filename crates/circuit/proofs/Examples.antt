-- The definition computes: a file with all six kinds of gate is accepted, so that what acceptance gives is not empty, and some files
-- that differ from it in one place are refused as document 01 says.
-- Assumes nothing.
use mathlib.Core.Path.{◌≡◌, refl}
use mathlib.Core.List.{List, [], ◌∷◌, ◌++◌}
use Prim.Native.Nat.{ℕ, ◌/◌, ◌%◌}
use Rattle.residue.specs.Prime.{remainders_below, is_prime}
use Rattle.checks.specs.declared.Refusal.TheVariants.{NotMade, NoOutput, WrongEnd}
use Rattle.words.specs.Items.{check, after_entry}
use Rattle.words.specs.Reading.{said, read_word}
use Rattle.circuit.specs.File.{ended, after, read_from, headed, read_file}
use Rattle.circuit.specs.Accepted.{AcceptedCircuit}
use Rattle.circuit.proofs.Accepted.{accepted}
use Rattle.checks.specs.Answer.{accepts, refuses}

abbrev bytes : List ℕ → List ℕ
bytes [] = []
bytes (w ∷ ws) = w % 256 ∷ w / 256 % 256 ∷ w / 65536 % 256 ∷ w / 16777216 ∷ bytes ws

-- inputs of moduli 2 and 3; add, scale, multiply; a projection from 2 to 3 with its two entries; a selection
abbrev gates : List ℕ
gates =
    0x1000_0000 ∷ 0x2000_0002 ∷ 0x2001_0003 ∷ 0x3000_0401 ∷ 0x4000_0801 ∷ 0x5000_0803
    ∷ 0x6000_0c00 ∷ 0x7000_0001 ∷ 0x7000_0002 ∷ 0x8000_0000 ∷ 0x9000_1005 ∷ []

abbrev six_kinds : List ℕ
six_kinds = bytes (gates ++ (0xa000_0006 ∷ 0xb000_0000 ∷ []))

six-kinds : (read_file six_kinds).answer ≡ accepts
unfolding read_file headed read_from after ended read_word said check after_entry is_prime remainders_below
six-kinds = refl

pub six_kinds_accepted : AcceptedCircuit six_kinds (read_file six_kinds).wires (read_file six_kinds).outputs
six_kinds_accepted = accepted six_kinds six-kinds

-- an output that is not made; no output; no end word, with a byte left over or not; a byte after the end word
not_made : (read_file (bytes (gates ++ (0xa000_0007 ∷ 0xb000_0000 ∷ [])))).answer ≡ refuses NotMade 11
unfolding read_file headed read_from after ended read_word said check after_entry is_prime remainders_below
not_made = refl

no_output : (read_file (bytes (gates ++ (0xb000_0000 ∷ 0xb000_0000 ∷ [])))).answer ≡ refuses NoOutput 11
unfolding read_file headed read_from after ended read_word said check after_entry is_prime remainders_below
no_output = refl

no_end : (read_file (bytes (gates ++ (0xa000_0006 ∷ [])) ++ (0 ∷ []))).answer ≡ refuses WrongEnd 12
unfolding read_file headed read_from after ended read_word said check after_entry is_prime remainders_below
no_end = refl

byte_left : (read_file (six_kinds ++ (0 ∷ []))).answer ≡ refuses WrongEnd 13
unfolding read_file headed read_from after ended read_word said check after_entry is_prime remainders_below
byte_left = refl
