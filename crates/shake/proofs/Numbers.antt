-- Of 8·n bytes as many as n numbers are made.
-- Assumes nothing.
use mathlib.Core.Path.{◌≡◌, refl, ap, ◌∙◌}
use Prim.Native.Nat.{ℕ, zero, suc, ◌*◌, ◌/◌}
use mathlib.Core.List.{List}
use native.Mathlib.Nat.{mul-div_right}
use lib.Dec.{lit<}
use lib.ListN.{length, drop}
use Rattle.shake.specs.Numbers.{first_numbers, numbers}

first_numbers-length : (n : ℕ) (bs : List ℕ) → length (first_numbers n bs) ≡ n
unfolding first_numbers
first_numbers-length zero bs = refl
first_numbers-length (suc n) bs = ap suc (first_numbers-length n (drop 8 bs))

-- n numbers of 8·n bytes
pub numbers-length : (bs : List ℕ) (n : ℕ) → length bs ≡ 8 * n → length (numbers bs) ≡ n
unfolding numbers
numbers-length bs n e = first_numbers-length (length bs / 8) bs ∙ ap (λ (k : ℕ). k / 8) e ∙ mul-div_right n {m = 8} (lit< tt)
