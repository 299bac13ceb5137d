-- Laws of hexadecimal digits: the value of a character by its range, digits read one by one, and what is known where 8 stand in a row.
-- Assumes nothing.
use mathlib.Core.Path.{◌≡◌, refl}
use mathlib.Core.Bool.{Bool, true, false, ◌&&◌}
use mathlib.Core.List.{List, [], ◌∷◌}
use Prim.Native.Nat.{ℕ, zero, suc, ◌+◌, ◌-◌, ◌*◌, ◌≤◌, ◌<◌}
use native.Mathlib.Nat.{add_assoc, not-suc-le-zero}
use native.Mathlib.Numerals.{add-one, sub-one}
use native.Mathlib.Omega.{arith}
use borrow.Author.Tests.{lt-ltb, le-ltb, le-leb, lt-leb, ltb-true}
use lib.Dec.{leb}
use lib.ListN.{length, get_or, drop, length-drop, drop_of_length-le}
use lib.Seq.{drop-cons, get_or-drop}
use Rattle.prices.specs.Lines.{between, hex_value, is_hex, hex_digits, byte_at}

-- ---- a character and a range

pub inside : (low high c : ℕ) → low ≤ c → c ≤ high → between low high c ≡ true
inside low high c h k = rw (le-leb low c h, le-leb c high k)

pub below : (low high c : ℕ) → c < low → between low high c ≡ false
below low high c h = rw (lt-leb low c h)

both_or_not : (a b : Bool) → b ≡ false → (a && b) ≡ false
both_or_not true b e = e
both_or_not false b e = refl

pub above : (low high c : ℕ) → high < c → between low high c ≡ false
above low high c h = both_or_not (leb low c) (leb c high) (lt-leb c high h)

-- ---- digits one by one

pub hex_end : (left i : ℕ) (text : List ℕ) → 0 < left → length text ≤ i → false ≡ hex_digits left (drop i text)
unfolding hex_digits
hex_end zero i text h k = absurd (not-suc-le-zero h)
hex_end (suc left) i text h k = rw (drop_of_length-le text k)

pub hex_bad : (left i : ℕ) (text : List ℕ) → 0 < left → i < length text → 16 ≤ hex_value (get_or text i 0) → false ≡ hex_digits left (drop i text)
unfolding hex_digits
hex_bad zero i text h k l = absurd (not-suc-le-zero h)
hex_bad (suc left) i text h k l = rw (drop-cons text i 0 k, le-ltb (hex_value (get_or text i 0)) 16 l)

pub hex_next : (left i : ℕ) (text : List ℕ) → 0 < left → i < length text → hex_value (get_or text i 0) < 16 → hex_digits (left - 1) (drop (i + 1) text) ≡ hex_digits left (drop i text)
unfolding hex_digits
hex_next zero i text h k l = absurd (not-suc-le-zero h)
hex_next (suc left) i text h k l = rw (drop-cons text i 0 k, lt-ltb (hex_value (get_or text i 0)) 16 l, sub-one, add-one)

pub hex_none : (left : ℕ) (text : List ℕ) → left ≤ 0 → true ≡ hex_digits left text
unfolding hex_digits
hex_none zero text h = refl
hex_none (suc left) text h = absurd (not-suc-le-zero h)

-- ---- digits in a row

pub record Digit (text : List ℕ) (i : ℕ) : Type 0 where
  pub there : i < length text
  pub small : hex_value (get_or text i 0) < 16

first-true : (a b : Bool) → (a && b) ≡ true → a ≡ true
first-true true b e = refl
first-true false b e = e

second-true : (a b : Bool) → (a && b) ≡ true → b ≡ true
second-true true b e = e
second-true false b e = absurd (let z : ◌≡◌ {A = ℕ} 0 1 = cc in omega arith)

pub hex_digit : (n : ℕ) (text : List ℕ) → hex_digits n text ≡ true → (i : ℕ) → i < n → Digit text i
unfolding hex_digits
hex_digit zero text e i h = absurd (not-suc-le-zero h)
hex_digit (suc n) [] e i h = absurd (let z : ◌≡◌ {A = ℕ} 0 1 = cc in omega arith)
hex_digit (suc n) (c ∷ text) e zero h =
    record { there = omega arith; small = ltb-true (hex_value c) 16 (first-true (is_hex c) (hex_digits n text) e) }
hex_digit (suc n) (c ∷ text) e (suc i) h =
    let d : Digit text i = hex_digit n text (second-true (is_hex c) (hex_digits n text) e) i (omega arith) in
    record { there = omega arith; small = d.small }

-- a digit of a text that begins at a place, said of the whole
pub digit_at : (at : ℕ) (text : List ℕ) → hex_digits 8 (drop at text) ≡ true → (i : ℕ) → i < 8 → Digit text (at + i)
digit_at at text e i h =
    let d : Digit (drop at text) i = hex_digit 8 (drop at text) e i h in
    record { there = omega (arith, d.there, length-drop at text); small = rw get_or-drop at d.small }

pub byte-at : (at i : ℕ) (text : List ℕ) → 16 * hex_value (get_or text (at + i) 0) + hex_value (get_or text (at + i + 1) 0) ≡ byte_at (drop at text) i
unfolding byte_at
byte-at at i text = rw (get_or-drop at text i 0, get_or-drop at text (i + 1) 0, ← add_assoc at i 1)
