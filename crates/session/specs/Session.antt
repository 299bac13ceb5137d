-- Document 01, "Where each check stands", and order 9: the checks that several calls share. "Every call reads the circuit first"; then the session's
-- checks, 11 to 15, with 28 directly after 13, on what the call is given.
-- Assumes nothing.
use Rattle.std.specs.Prelude.{Bool, true, false, ◌&&◌, List, [], ◌∷◌, ℕ, ◌^◌, eqb, leb, ltb, length, get_or}
use Rattle.checks.specs.declared.Refusal.TheVariants.{SessionRange, NoSuchParty, OwnerAbsent, NamedAbsent, WrongLength, ValueTooLarge}
use Rattle.checks.specs.Checked.{and_then, unless, none_bad}
use Rattle.words.specs.declared.gate.Gate.{Gate}
use Rattle.words.specs.declared.gate.Gate.TheVariants.{Input, Add, Scale, Multiply, Project, Select}
use Rattle.words.specs.declared.gate.Wire.{Wire}
use Rattle.circuit.specs.Wires.{wire_at}
use Rattle.circuit.specs.File.{read_file}
use Rattle.checks.specs.Answer.{Answer}

-- 1 to 10: the reader's answer
abbrev pub file_checked : List ℕ → Answer
file_checked file = (read_file file).answer

-- 11: two to eight parties
unfoldable pub parties_checked : ℕ → Answer
parties_checked n = unless (leb 2 n && leb n 8) SessionRange 0

-- 11: parties and key length, 1 to 128
unfoldable pub session_checked : ℕ → ℕ → Answer
session_checked n K = unless ((leb 2 n && leb n 8) && (leb 1 K && leb K 128)) SessionRange 0

-- 12: the party asked for
unfoldable pub party_checked : ℕ → ℕ → Answer
party_checked n party = unless (ltb party n) NoSuchParty party

-- 13: every input's owner takes part
abbrev pub owner_absent : ℕ → Gate → Bool
owner_absent n (Input gate) = leb n gate.owner
owner_absent n (Add gate) = false
owner_absent n (Scale gate) = false
owner_absent n (Multiply gate) = false
owner_absent n (Project gate) = false
owner_absent n (Select gate) = false

unfoldable pub owners_checked : ℕ → List Wire → Answer
owners_checked n wires = none_bad (length wires) (λ w. owner_absent n (wire_at wires w).gate) OwnerAbsent

-- 28: every party that an output names takes part; bit s names party s, so a party from n up is named where this number is 2 ^ n or more (law
-- `absent_named`)
abbrev pub named_absent : ℕ → ℕ → Bool
named_absent n parties = leb (2 ^ n) parties

unfoldable pub named_checked : ℕ → List ℕ → Answer
named_checked n named = none_bad (length named) (λ i. named_absent n (get_or named i 0)) NamedAbsent

-- 13, then 28, where the outputs name these
unfoldable pub partakers_checked : ℕ → List Wire → List ℕ → Answer
partakers_checked n wires named = and_then (owners_checked n wires) (named_checked n named)

-- 14: each lent length is exact: the lengths lent are those wanted, one by one
unfoldable pub same_numbers : List ℕ → List ℕ → Bool
same_numbers [] [] = true
same_numbers [] (y ∷ ys) = false
same_numbers (x ∷ xs) [] = false
same_numbers (x ∷ xs) (y ∷ ys) = eqb x y && same_numbers xs ys

unfoldable pub lengths_checked : List ℕ → List ℕ → Answer
lengths_checked lent wanted = unless (same_numbers lent wanted) WrongLength 0

-- an entry of a list is not below its modulus
abbrev pub too_large : List ℕ → (ℕ → ℕ) → ℕ → Bool
too_large xs modulus i = leb (modulus i) (get_or xs i 0)

-- 15: each value, external value or mask is below its modulus
unfoldable pub values_checked : List ℕ → (ℕ → ℕ) → Answer
values_checked xs modulus = none_bad (length xs) (too_large xs modulus) ValueTooLarge
