-- The five step mappings of FIPS 202, section 3.2, each from state to state. FIPS writes x − 1 mod 5 where (x + 4) % 5 stands here.
-- Assumes nothing.
use Rattle.std.specs.Prelude.{ℕ, ◌+◌, ◌*◌, ◌%◌, List, set}
use Rattle.std.specs.Int.Bits.{bit_and, bit_xor}
use Rattle.keccak.specs.Lanes.{lane, state, rotate, complement}
use Rattle.keccak.specs.Offsets.{offset}

-- C[x]: the parities of the columns at x, that is the sum of the lanes (x, 0), …, (x, 4)
abbrev pub parity : List ℕ → ℕ → ℕ
parity a x = bit_xor (bit_xor (bit_xor (bit_xor (lane a x 0) (lane a x 1)) (lane a x 2)) (lane a x 3)) (lane a x 4)

-- D[x] = C[x − 1] ⊕ C[x + 1] rotated by one
abbrev pub effect : List ℕ → ℕ → ℕ
effect a x = bit_xor (parity a ((x + 4) % 5)) (rotate 1 (parity a ((x + 1) % 5)))

-- θ: A'[x, y] = A[x, y] ⊕ D[x]
abbrev pub theta : List ℕ → List ℕ
theta a = state (λ x y. bit_xor (lane a x y) (effect a x))

-- ρ: each lane rotated by its offset
abbrev pub rho : List ℕ → List ℕ
rho a = state (λ x y. rotate (offset x y) (lane a x y))

-- π: A'[x, y] = A[x + 3y, x]
abbrev pub pi : List ℕ → List ℕ
pi a = state (λ x y. lane a ((x + 3 * y) % 5) x)

-- χ: A'[x, y] = A[x, y] ⊕ ((A[x + 1, y] ⊕ 1…1) · A[x + 2, y])
abbrev pub chi : List ℕ → List ℕ
chi a = state (λ x y. bit_xor (lane a x y) (bit_and (complement (lane a ((x + 1) % 5) y)) (lane a ((x + 2) % 5) y)))

-- ι: A'[0, 0] = A[0, 0] ⊕ RC, and the other lanes as they are
abbrev pub iota : ℕ → List ℕ → List ℕ
iota rc a = set a 0 (bit_xor (lane a 0 0) rc)
