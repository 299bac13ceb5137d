-- No more of a text matters than the program reads: 16,384 lines of 9 characters, and one character behind them, by which it is too long.
-- Assumes nothing.
use mathlib.Core.Path.{◌≡◌, refl, ap}
use mathlib.Core.Bool.{Bool, ◌&&◌}
use mathlib.Core.List.{List, [], ◌∷◌, ◌++◌}
use Prim.Native.Nat.{ℕ, zero, suc, ◌+◌, ◌-◌, ◌*◌, ◌≤◌, ◌<◌}
use native.Mathlib.Nat.{le_of_suc-le-suc, not-suc-le-zero}
use native.Mathlib.Omega.{arith}
use lib.ListN.{take, drop}
use lib.Seq.{get_or-take}
use Rattle.lists.proofs.Parts.{drop-take}
use Rattle.prices.specs.Lines.{is_hex, hex_digits, line_ends, word_line, byte_at, word_bytes, is_empty, lines_from, lines_of}
use Rattle.prices.specs.Prices.{printed, price_list}

-- ---- one line, of which no more than 9 characters are looked at

empty-front : (m : ℕ) (text : List ℕ) → 0 < m → is_empty (take m text) ≡ is_empty text
unfolding is_empty
empty-front zero text h = absurd (not-suc-le-zero h)
empty-front (suc m) [] h = refl
empty-front (suc m) (c ∷ text) h = refl

ends-front : (m : ℕ) (text : List ℕ) → 0 < m → line_ends (take m text) ≡ line_ends text
unfolding line_ends
ends-front zero text h = absurd (not-suc-le-zero h)
ends-front (suc m) [] h = refl
ends-front (suc m) (c ∷ text) h = refl

digits-front : (n m : ℕ) (text : List ℕ) → n ≤ m → hex_digits n (take m text) ≡ hex_digits n text
unfolding hex_digits
digits-front zero m text h = refl
digits-front (suc n) zero text h = absurd (not-suc-le-zero h)
digits-front (suc n) (suc m) [] h = refl
digits-front (suc n) (suc m) (c ∷ text) h = ap (λ (b : Bool). is_hex c && b) (digits-front n m text (le_of_suc-le-suc h))

module _ (m : ℕ) (text : List ℕ) (h : 9 ≤ m) where
  line_front : word_line (take m text) ≡ word_line text
  unfolding word_line
  line_front = rw (digits-front 8 m text (omega arith), drop-take 8 m text, ends-front (m - 8) (drop 8 text) (omega arith))

  byte_front : (i : ℕ) → i < 8 → byte_at (take m text) i ≡ byte_at text i
  unfolding byte_at
  byte_front i l = rw (get_or-take m text i 0 (omega arith), get_or-take m text (i + 1) 0 (omega arith))

  word_front : word_bytes (take m text) ≡ word_bytes text
  word_front = rw (byte_front 6 (omega arith), byte_front 4 (omega arith), byte_front 2 (omega arith), byte_front 0 (omega arith))

-- ---- all lines

lines-front : (left n : ℕ) (text bytes : List ℕ) → lines_from left n (take (9 * left + 1) text) bytes ≡ lines_from left n text bytes
unfolding lines_from
lines-front zero n text bytes = rw (empty-front 1 text (omega arith))
lines-front (suc left) n text bytes =
    let m : ℕ = 9 * suc left + 1 in
    let rest : m - 9 ≡ 9 * left + 1 = omega arith in
    rw (empty-front m text (omega arith), line_front m text (omega arith), word_front m text (omega arith), drop-take 9 m text, rest, lines-front left (n + 1) (drop 9 text) (bytes ++ word_bytes text))

-- the price list of a text is that of its first 147,457 characters
pub front_is_enough : (text : List ℕ) → price_list (take 147457 text) ≡ price_list text
unfolding price_list lines_of
front_is_enough text = ap printed (lines-front 16384 1 text [])
