-- The constants that ι adds: FIPS 202, section 3.2.5, from the shift register of algorithm 5.
-- Assumes nothing.
use Rattle.std.specs.Prelude.{ℕ, zero, suc, ◌+◌, ◌-◌, ◌*◌, ◌%◌, ◌^◌, List, [], ◌∷◌, get_or, set, take}
use Rattle.std.specs.Int.Bits.{bit_xor}

-- R[i] := R[i] ⊕ R[8]
unfoldable pub add_last : ℕ → List ℕ → List ℕ
add_last i r = set r i (bit_xor (get_or r i 0) (get_or r 8 0))

-- one turn of the register: a 0 comes in at the front, the bit that falls out at place 8 is added at 0, 4, 5 and 6, and eight bits stay
unfoldable pub turn : List ℕ → List ℕ
turn r = take 8 (add_last 6 (add_last 5 (add_last 4 (add_last 0 (0 ∷ r)))))

-- the register after n turns; it starts as 10000000
unfoldable pub register : ℕ → List ℕ
register zero = 1 ∷ 0 ∷ 0 ∷ 0 ∷ 0 ∷ 0 ∷ 0 ∷ 0 ∷ []
register (suc n) = turn (register n)

-- rc(t), algorithm 5
unfoldable pub rc : ℕ → ℕ
rc t = get_or (register (t % 255)) 0 0

-- bit 2^j − 1 of the constant of round i, at its weight
unfoldable pub constant_bit : ℕ → ℕ → ℕ
constant_bit i j = rc (j + 7 * i) * 2 ^ (2 ^ j - 1)

-- RC of round i: its bits at 2^j − 1, j from 0 to 6; all others are 0
unfoldable pub round_constant : ℕ → ℕ
round_constant i =
    constant_bit i 0 + constant_bit i 1 + constant_bit i 2 + constant_bit i 3 + constant_bit i 4 + constant_bit i 5 + constant_bit i 6
