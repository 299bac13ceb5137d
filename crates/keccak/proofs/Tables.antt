-- The numbers that stand in src/lib.rt, and where they come from: the offsets from the walk of ρ, the round constants from the shift register.
-- Each table is one test that antt computes.
-- Assumes nothing.
use mathlib.Core.Path.{◌≡◌, refl, ap, ◌∙◌}
use mathlib.Core.List.{List, [], ◌∷◌}
use Prim.Native.Nat.{ℕ, zero, suc, ◌+◌, ◌<◌}
use native.Mathlib.Nat.{zero-add, le_of_suc-le-suc, not-suc-le-zero}
use native.Mathlib.Omega.{arith}
use lib.ListN.{get_or}
use Rattle.keccak.specs.Lanes.{state}
use Rattle.keccak.specs.Offsets.{offset}
use Rattle.keccak.specs.RoundConstants.{add_last, turn, register, rc, constant_bit, round_constant}

-- the offset of each lane, plane by plane
pub offsets : state offset
    ≡ 0 ∷ 1 ∷ 62 ∷ 28 ∷ 27
    ∷ 36 ∷ 44 ∷ 6 ∷ 55 ∷ 20
    ∷ 3 ∷ 10 ∷ 43 ∷ 25 ∷ 39
    ∷ 41 ∷ 45 ∷ 15 ∷ 21 ∷ 8
    ∷ 18 ∷ 2 ∷ 61 ∷ 56 ∷ 14 ∷ []
offsets = refl

-- f i, f (i + 1), …: n of them
abbrev pub run : ℕ → ℕ → (ℕ → ℕ) → List ℕ
run zero i f = []
run (suc n) i f = f i ∷ run n (suc i) f

run_at : (n i : ℕ) (f : ℕ → ℕ) (k : ℕ) → k < n → get_or (run n i f) k 0 ≡ f (i + k)
run_at zero i f k h = absurd (not-suc-le-zero h)
run_at (suc n) i f zero h = ap f (omega arith)
run_at (suc n) i f (suc k) h = run_at n (suc i) f k (le_of_suc-le-suc h) ∙ ap f (omega arith)

-- the table RC of src/lib.rt
abbrev pub constants : List ℕ
constants =
    0x0000000000000001 ∷ 0x0000000000008082 ∷ 0x800000000000808a ∷ 0x8000000080008000
    ∷ 0x000000000000808b ∷ 0x0000000080000001 ∷ 0x8000000080008081 ∷ 0x8000000000008009
    ∷ 0x000000000000008a ∷ 0x0000000000000088 ∷ 0x0000000080008009 ∷ 0x000000008000000a
    ∷ 0x000000008000808b ∷ 0x800000000000008b ∷ 0x8000000000008089 ∷ 0x8000000000008003
    ∷ 0x8000000000008002 ∷ 0x8000000000000080 ∷ 0x000000000000800a ∷ 0x800000008000000a
    ∷ 0x8000000080008081 ∷ 0x8000000000008080 ∷ 0x0000000080000001 ∷ 0x8000000080008008 ∷ []

pub constants_run : constants ≡ run 24 0 round_constant
unfolding add_last turn register rc constant_bit round_constant
constants_run = refl

-- entry i of the table is the constant of round i
pub constant-at : (i : ℕ) → i < 24 → get_or constants i 0 ≡ round_constant i
constant-at i h = ap (λ (l : List ℕ). get_or l i 0) constants_run ∙ run_at 24 0 round_constant i h ∙ ap round_constant (zero-add i)
