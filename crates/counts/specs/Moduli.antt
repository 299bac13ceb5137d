-- Document 01, "Seats, keys, masks": the moduli that some wire has. A party has one offset for each of them, ascending.
-- Assumes nothing.
use Rattle.std.specs.Prelude.{Bool, false, ◌||◌, List, ℕ, zero, suc, eqb, length, get_or}
use Rattle.lists.specs.Blocks.{sum_to}
use Rattle.words.specs.declared.gate.Wire.{Wire}
use Rattle.circuit.specs.Wires.{modulus_at}
use Rattle.counts.specs.Counts.{mark, Counts}

-- a test holds of some number below n
unfoldable pub some_below : ℕ → (ℕ → Bool) → Bool
some_below zero test = false
some_below (suc n) test = some_below n test || test n

-- some wire has modulus p
abbrev pub used : List Wire → ℕ → Bool
used wires p = some_below (length wires) (λ w. eqb (modulus_at wires w) p)

-- how many numbers below p are moduli in use: where p is one itself, its place among them
abbrev pub used_below : List Wire → ℕ → ℕ
used_below wires p = sum_to p (λ q. mark (used wires q))

-- Q, how many moduli are in use; a modulus is a byte
abbrev pub moduli_used : List Wire → ℕ
moduli_used wires = used_below wires 256

-- how many of 256 marks are set
abbrev pub SetMarks : List ℕ → ℕ → Type 0
SetMarks marks r = Counts 256 (sum_to 256 (λ p. mark (eqb (get_or marks p 0) 1))) r
