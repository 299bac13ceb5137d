-- By how many places ρ rotates each lane: the walk of FIPS 202, section 3.2.2, algorithm 2.
-- Assumes nothing.
use Rattle.std.specs.Prelude.{ℕ, zero, suc, ◌+◌, ◌*◌, ◌/◌, ◌%◌, cond, ◌&&◌, eqb}

-- The walk stands at (p, q) after t steps and has n places to visit yet. It rotates the lane at (p, q) by (t + 1)(t + 2)/2 places
-- and goes on to (q, (2p + 3q) mod 5). This is what it does to lane (x, y); a lane that it does not visit is not rotated.
abbrev pub on_walk : ℕ → ℕ → ℕ → ℕ → ℕ → ℕ → ℕ
on_walk zero t p q x y = 0
on_walk (suc n) t p q x y =
    cond (eqb p x && eqb q y) ((t + 1) * (t + 2) / 2 % 64) (on_walk n (t + 1) q ((2 * p + 3 * q) % 5) x y)

-- the offset of lane (x, y): the walk starts at (1, 0) and visits 24 lanes, t from 0 to 23
abbrev pub offset : ℕ → ℕ → ℕ
offset x y = on_walk 24 0 1 0 x y
