-- Laws of `decimal`: the last digit and those before it, and how many there are.
-- Assumes nothing.
use mathlib.Core.Path.{◌≡◌, sym, ap, ◌∙◌}
use mathlib.Core.List.{List, [], ◌∷◌, ◌++◌}
use Prim.Native.Nat.{ℕ, zero, suc, ◌+◌, ◌*◌, ◌/◌, ◌%◌, ◌^◌, ◌≤◌, ◌<◌}
use native.Mathlib.Nat.{pow-suc}
use native.Mathlib.Decide.{dec_le}
use native.Mathlib.Omega.{arith}
use borrow.Author.Tests.{lt-ltb, le-ltb}
use lib.ListN.{length, length-append}
use Rattle.prices.specs.Decimal.{digits, decimal}

-- all digits but the last have one place less
shorter : (k n : ℕ) → n < 10 ^ suc (suc k) → n / 10 < 10 ^ suc k
shorter k n h = let e : 10 ^ suc (suc k) ≡ 10 ^ suc k * 10 = pow-suc 10 (suc k) in omega arith

digits-small : (k n : ℕ) → n < 10 → digits (suc k) n ≡ (48 + n) ∷ []
unfolding digits
digits-small k n h = rw (lt-ltb n 10 h)

digits_large : (k n : ℕ) → 10 ≤ n → digits (suc k) n ≡ digits k (n / 10) ++ ((48 + n % 10) ∷ [])
unfolding digits
digits_large k n h = rw (le-ltb n 10 h)

-- one place more than a number has digits changes nothing
digits_more : (k n : ℕ) → Dec (10 ≤ n) → n < 10 ^ suc k → digits (suc (suc k)) n ≡ digits (suc k) n
digits_more zero n (no s) h = digits-small 1 n (omega arith) ∙ sym (digits-small 0 n (omega arith))
digits_more zero n (yes l) h = absurd (omega arith)
digits_more (suc k) n (no s) h = digits-small (suc (suc k)) n (omega arith) ∙ sym (digits-small (suc k) n (omega arith))
digits_more (suc k) n (yes l) h =
    digits_large (suc (suc k)) n l
    ∙ ap (λ (ds : List ℕ). ds ++ ((48 + n % 10) ∷ [])) (digits_more k (n / 10) (dec_le 10 (n / 10)) (shorter k n h))
    ∙ sym (digits_large (suc k) n l)

pub decimal-small : (n : ℕ) → n < 10 → decimal n ≡ (48 + n) ∷ []
unfolding decimal
decimal-small n h = digits-small 19 n h

pub decimal_large : (n : ℕ) → 10 ≤ n → n < 2 ^ 64 → decimal n ≡ decimal (n / 10) ++ ((48 + n % 10) ∷ [])
unfolding decimal
decimal_large n l h =
    digits_large 19 n l ∙ ap (λ (ds : List ℕ). ds ++ ((48 + n % 10) ∷ [])) (sym (digits_more 18 (n / 10) (dec_le 10 (n / 10)) (omega arith)))

-- as many digits as its limit
digits-short : (j k n : ℕ) → Dec (10 ≤ n) → n < 10 ^ suc k → length (digits j n) ≤ suc k
unfolding digits
digits-short zero k n d h = omega arith
digits-short (suc j) k n (no s) h = rw (digits-small j n (omega arith)) (omega arith)
digits-short (suc j) zero n (yes l) h = absurd (omega arith)
digits-short (suc j) (suc k) n (yes l) h =
    rw (digits_large j n l, length-append) (omega (arith, digits-short j k (n / 10) (dec_le 10 (n / 10)) (shorter k n h)))

pub decimal-short : (k n : ℕ) → n < 10 ^ suc k → length (decimal n) ≤ suc k
unfolding decimal
decimal-short k n h = digits-short 20 k n (dec_le 10 n) h

pub length-small : (n : ℕ) → n < 10 → length (decimal n) ≡ 1
length-small n h = ap length (decimal-small n h)

pub length_large : (n : ℕ) → 10 ≤ n → n < 2 ^ 64 → length (decimal n) ≡ length (decimal (n / 10)) + 1
length_large n l h = ap length (decimal_large n l h) ∙ length-append (decimal (n / 10)) ((48 + n % 10) ∷ [])
