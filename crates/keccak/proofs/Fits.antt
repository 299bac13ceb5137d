-- What the permutation gives is a state again: 25 lanes, each below 2^64 where the lanes given are.
-- Assumes nothing.
use mathlib.Core.Path.{◌≡◌, refl, subst}
use mathlib.Core.List.{List, [], ◌∷◌}
use Prim.Native.Nat.{ℕ, zero, suc, ◌+◌, ◌-◌, ◌*◌, ◌/◌, ◌%◌, ◌^◌, ◌≤◌, ◌<◌, max, zero-le}
use native.Mathlib.Nat.{mod-lt, lt_of_le_of_lt, le_trans, le-max_left, le-max_right}
use native.Mathlib.Omega.{arith}
use lib.Bits.{bit_and, bit_xor, or_lt, xor_lt, and_lt}
use lib.Dec.{lit<, lit≤}
use lib.ListN.{length, get_or, set}
use lib.Pow.{pow_pos, shr_le, ones_sub-lt}
use Rattle.keccak.specs.Lanes.{lane, plane, state, rotate, complement}
use Rattle.keccak.specs.Offsets.{offset}
use Rattle.keccak.specs.RoundConstants.{round_constant}
use Rattle.keccak.specs.Steps.{parity, effect, theta, rho, pi, chi, iota}
use Rattle.keccak.specs.Keccak.{round, rounds, keccak_f}
use Rattle.keccak.proofs.Tables.{constants, constant-at}

-- ---- 25 lanes

round-length : (rc : ℕ) (a : List ℕ) → length (round rc a) ≡ 25
unfolding round
round-length rc a = refl

pub keccak_f-length : (a : List ℕ) → length (keccak_f a) ≡ 25
unfolding rounds keccak_f
keccak_f-length a = round-length (round_constant 23) (rounds 23 a)

-- ---- each below 2^64

-- the 25 lanes of a are below 2^64
abbrev pub Fits : List ℕ → Type 0
Fits a = (i : ℕ) → i < 25 → get_or a i 0 < 2 ^ 64

-- every entry of a list, however long
Every : List ℕ → Type 0
Every a = (i : ℕ) → get_or a i 0 < 2 ^ 64

none : Every []
unfolding Every
none i = pow_pos 64

one : (x : ℕ) (xs : List ℕ) → x < 2 ^ 64 → Every xs → Every (x ∷ xs)
unfolding Every
one x xs h hs zero = h
one x xs h hs (suc i) = hs i

-- a state whose lanes are computed by f
module _ (f : ℕ → ℕ → ℕ) (h : (x y : ℕ) → x < 5 → y < 5 → f x y < 2 ^ 64) where
  plane_fits : (y : ℕ) → y < 5 → (later : List ℕ) → Every later → Every (plane f y later)
  plane_fits y hy later hs =
      one _ _ (h 0 y (lit< tt) hy)
      (one _ _ (h 1 y (lit< tt) hy) (one _ _ (h 2 y (lit< tt) hy) (one _ _ (h 3 y (lit< tt) hy) (one _ _ (h 4 y (lit< tt) hy) hs))))

  state_every : Every (state f)
  state_every =
      plane_fits 0 (lit< tt) _
      (plane_fits 1 (lit< tt) _ (plane_fits 2 (lit< tt) _ (plane_fits 3 (lit< tt) _ (plane_fits 4 (lit< tt) _ none))))

  state_fits : Fits (state f)
  unfolding Every
  state_fits i _ = state_every i

xor_fits : (a b : ℕ) → a < 2 ^ 64 → b < 2 ^ 64 → bit_xor a b < 2 ^ 64
xor_fits = xor_lt 64

pub rotate-fits : (r a : ℕ) → a < 2 ^ 64 → rotate r a < 2 ^ 64
rotate-fits zero a h = h
rotate-fits (suc r) a h =
    or_lt 64 (a * 2 ^ suc r % 2 ^ 64) (a / 2 ^ (64 - suc r)) (mod-lt _ (pow_pos 64)) (lt_of_le_of_lt (shr_le a (64 - suc r)) h)

mod_five : (x : ℕ) → x % 5 < 5
mod_five x = mod-lt x (lit< tt)

set-fits : (a : List ℕ) (v : ℕ) → Fits a → v < 2 ^ 64 → Fits (set a 0 v)
set-fits [] v h hv i hi = h i hi
set-fits (x ∷ xs) v h hv zero hi = hv
set-fits (x ∷ xs) v h hv (suc i) hi = h (suc i) hi

-- ---- the five steps
module _ (a : List ℕ) (h : Fits a) where
  lane_fits : (x y : ℕ) → x < 5 → y < 5 → lane a x y < 2 ^ 64
  lane_fits x y hx hy = h (5 * y + x) (omega arith)

  parity_fits : (x : ℕ) → x < 5 → parity a x < 2 ^ 64
  parity_fits x hx =
      xor_fits _ _
      (xor_fits _ _
      (xor_fits _ _ (xor_fits _ _ (lane_fits x 0 hx (lit< tt)) (lane_fits x 1 hx (lit< tt))) (lane_fits x 2 hx (lit< tt)))
      (lane_fits x 3 hx (lit< tt)))
      (lane_fits x 4 hx (lit< tt))

  effect_fits : (x : ℕ) → effect a x < 2 ^ 64
  effect_fits x =
      xor_fits (parity a ((x + 4) % 5)) (rotate 1 (parity a ((x + 1) % 5)))
      (parity_fits ((x + 4) % 5) (mod_five (x + 4)))
      (rotate-fits 1 (parity a ((x + 1) % 5)) (parity_fits ((x + 1) % 5) (mod_five (x + 1))))

  theta_fits : Fits (theta a)
  theta_fits = state_fits (λ x y. bit_xor (lane a x y) (effect a x)) (λ x y hx hy. xor_fits (lane a x y) (effect a x) (lane_fits x y hx hy) (effect_fits x))

  rho_fits : Fits (rho a)
  rho_fits = state_fits (λ x y. rotate (offset x y) (lane a x y)) (λ x y hx hy. rotate-fits (offset x y) (lane a x y) (lane_fits x y hx hy))

  pi_fits : Fits (pi a)
  pi_fits = state_fits (λ x y. lane a ((x + 3 * y) % 5) x) (λ x y hx hy. lane_fits ((x + 3 * y) % 5) x (mod_five (x + 3 * y)) hx)

  chi_fits : Fits (chi a)
  chi_fits =
      state_fits (λ x y. bit_xor (lane a x y) (bit_and (complement (lane a ((x + 1) % 5) y)) (lane a ((x + 2) % 5) y)))
      λ x y hx hy. xor_fits (lane a x y) (bit_and (complement (lane a ((x + 1) % 5) y)) (lane a ((x + 2) % 5) y)) (lane_fits x y hx hy)
      (and_lt 64 (complement (lane a ((x + 1) % 5) y)) (lane a ((x + 2) % 5) y)
      (ones_sub-lt 64 (lane a ((x + 1) % 5) y)) (lane_fits ((x + 2) % 5) y (mod_five (x + 2)) hy))

  iota_fits : (rc : ℕ) → rc < 2 ^ 64 → Fits (iota rc a)
  iota_fits rc hr = set-fits a (bit_xor (lane a 0 0) rc) h (xor_fits (lane a 0 0) rc (lane_fits 0 0 (lit< tt) (lit< tt)) hr)

-- ---- the round constants, by the greatest of them
highest : List ℕ → ℕ
highest [] = 0
highest (x ∷ xs) = max x (highest xs)

le_highest : (xs : List ℕ) (i : ℕ) → get_or xs i 0 ≤ highest xs
unfolding highest
le_highest [] i = zero-le
le_highest (x ∷ xs) zero = le-max_left x (highest xs)
le_highest (x ∷ xs) (suc i) = le_trans (le_highest xs i) (le-max_right x (highest xs))

constants_fit : highest constants < 2 ^ 64
unfolding highest
constants_fit = lit< tt

constant-fits : (i : ℕ) → i < 24 → round_constant i < 2 ^ 64
constant-fits i h = subst (λ (n : ℕ). n < 2 ^ 64) (constant-at i h) (lt_of_le_of_lt (le_highest constants i) constants_fit)

-- ---- the rounds
round-fits : (rc : ℕ) → rc < 2 ^ 64 → (a : List ℕ) → Fits a → Fits (round rc a)
unfolding round
round-fits rc hr a h =
    iota_fits (chi (pi (rho (theta a))))
    (chi_fits (pi (rho (theta a))) (pi_fits (rho (theta a)) (rho_fits (theta a) (theta_fits a h)))) rc hr

rounds-fits : (n : ℕ) → n ≤ 24 → (a : List ℕ) → Fits a → Fits (rounds n a)
unfolding rounds
rounds-fits zero hn a h = h
rounds-fits (suc n) hn a h = round-fits (round_constant n) (constant-fits n hn) (rounds n a) (rounds-fits n (omega arith) a h)

pub keccak_f-fits : (a : List ℕ) → Fits a → Fits (keccak_f a)
unfolding keccak_f
keccak_f-fits a h = rounds-fits 24 (lit≤ tt) a h
