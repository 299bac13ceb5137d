-- The state of Keccak-f[1600], FIPS 202, section 3.1: 25 lanes of 64 bits. A lane is a number below 2^64 whose bit z has the weight 2^z;
-- lane (x, y) stands at place 5·y + x.
-- Assumes nothing.
use Rattle.std.specs.Prelude.{ℕ, zero, suc, ◌+◌, ◌-◌, ◌*◌, ◌/◌, ◌%◌, ◌^◌, List, [], ◌∷◌, get_or}
use Rattle.std.specs.Int.Bits.{bit_or}

-- lane (x, y) of the state a
abbrev pub lane : List ℕ → ℕ → ℕ → ℕ
lane a x y = get_or a (5 * y + x) 0

-- the five lanes f 0 y, …, f 4 y of the plane y, followed by what stands in the later planes
abbrev pub plane : (ℕ → ℕ → ℕ) → ℕ → List ℕ → List ℕ
plane f y later = f 0 y ∷ f 1 y ∷ f 2 y ∷ f 3 y ∷ f 4 y ∷ later

-- the state whose lane (x, y) is f x y
abbrev pub state : (ℕ → ℕ → ℕ) → List ℕ
state f = plane f 0 (plane f 1 (plane f 2 (plane f 3 (plane f 4 []))))

-- the lane a rotated by r places, r < 64: bit z goes to bit (z + r) mod 64
abbrev pub rotate : ℕ → ℕ → ℕ
rotate zero a = a
rotate (suc r) a = bit_or (a * 2 ^ suc r % 2 ^ 64) (a / 2 ^ (64 - suc r))

-- the lane a with each of its 64 bits changed
abbrev pub complement : ℕ → ℕ
complement a = 2 ^ 64 - 1 - a
