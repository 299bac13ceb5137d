-- Laws of the line that a text begins with, and of all lines: what reading one line more does.
-- Assumes nothing.
use mathlib.Core.Path.{◌≡◌, refl, sym, ap, ◌∙◌}
use mathlib.Core.Bool.{Bool, true, false, cond}
use mathlib.Core.List.{List, [], ◌∷◌, ◌++◌}
use Prim.Native.Nat.{ℕ, zero, suc, ◌+◌, ◌-◌, ◌*◌, ◌≤◌, ◌<◌}
use native.Mathlib.Omega.{arith}
use lib.ListN.{length, take, drop, drop_of_length-le}
use lib.Seq.{drop-cons, drop-drop}
use Rattle.lists.specs.Blocks.{written}
use Rattle.lists.proofs.Written.{front-written, length-written}
use Rattle.prices.specs.Lines.{hex_digits, line_ends, word_line, byte_at, word_bytes, is_empty, lines_from, lines_of}
use Rattle.prices.specs.Lines.Lines.{file, bad_line, too_long}
use Rattle.std.specs.Prelude.{Some, None}
use Rattle.prices.specs.Line.{line_at}

-- ---- one line

module _ (text : List ℕ) where
  pub line_good : {a b c d : ℕ} → hex_digits 8 text ≡ true → line_ends (drop 8 text) ≡ true
      → a ≡ byte_at text 6 → b ≡ byte_at text 4 → c ≡ byte_at text 2 → d ≡ byte_at text 0
      → Some (a ∷ b ∷ c ∷ d ∷ []) ≡ line_at text
  unfolding line_at word_line
  line_good h e p q r s = rw (h, e, p, q, r, s)

  pub line_short : hex_digits 8 text ≡ false → None ≡ line_at text
  unfolding line_at word_line
  line_short h = rw h

  pub line_long : hex_digits 8 text ≡ true → line_ends (drop 8 text) ≡ false → None ≡ line_at text
  unfolding line_at word_line
  line_long h e = rw (h, e)

-- what it says of the text
bad_test : (b : Bool) (word : List ℕ) → cond b (Some word) None ≡ None → b ≡ false
bad_test true word e = absurd (let z : ◌≡◌ {A = ℕ} 0 1 = cc in omega arith)
bad_test false word e = refl

good_test : (b : Bool) (v w : List ℕ) → cond b (Some v) None ≡ Some w → (b ≡ true) × (v ≡ w)
good_test true v w e = (refl, cc)
good_test false v w e = absurd (let z : ◌≡◌ {A = ℕ} 0 1 = cc in omega arith)

abbrev word : List ℕ → List ℕ
word text = byte_at text 6 ∷ byte_at text 4 ∷ byte_at text 2 ∷ byte_at text 0 ∷ []

line_is_bad : (text : List ℕ) → line_at text ≡ None → word_line text ≡ false
unfolding line_at
line_is_bad text e = bad_test (word_line text) (word text) e

line_is_good : (text : List ℕ) (w : List ℕ) → line_at text ≡ Some w → (word_line text ≡ true) × (word text ≡ w)
unfolding line_at
line_is_good text w e = good_test (word_line text) (word text) w e

-- ---- all lines

lines_none : (left n : ℕ) (bytes : List ℕ) → lines_from left n [] bytes ≡ file bytes
unfolding lines_from is_empty
lines_none zero n bytes = refl
lines_none (suc left) n bytes = refl

module _ (text : List ℕ) (some : is_empty text ≡ false) (n : ℕ) (bytes : List ℕ) where
  lines_long : lines_from 0 n text bytes ≡ too_long
  unfolding lines_from
  lines_long = rw some

  lines_bad : (left : ℕ) → word_line text ≡ false → lines_from (suc left) n text bytes ≡ bad_line n
  unfolding lines_from
  lines_bad left e = rw (some, e)

  lines_next : (left : ℕ) → word_line text ≡ true → lines_from (suc left) n text bytes ≡ lines_from left (n + 1) (drop 9 text) (bytes ++ word_bytes text)
  unfolding lines_from
  lines_next left e = rw (some, e)

some_left : (text : List ℕ) (at : ℕ) → at < length text → is_empty (drop at text) ≡ false
unfolding is_empty
some_left text at h = rw (drop-cons text at 0 h)

-- n lines are read, up to a place; their bytes stand at the front of the buffer, and what the rest comes to is what all lines come to
pub record SoFar (text buffer₀ : List ℕ) (n at : ℕ) (buffer : List ℕ) : Type 0 where
  pub lines : n ≤ 16384
  pub room : 65536 ≤ length buffer₀
  pub kept : length buffer ≡ length buffer₀
  pub rest : lines_from (16384 - n) (n + 1) (drop at text) (take (4 * n) buffer) ≡ lines_of text

pub so_far_start : {text buffer₀ : List ℕ} → 65536 ≤ length buffer₀ → SoFar text buffer₀ 0 0 buffer₀
unfolding lines_of
so_far_start h = record { lines = omega arith; room = h; kept = refl; rest = refl }

module _ {text buffer₀ : List ℕ} {n at : ℕ} {buffer : List ℕ} (r : SoFar text buffer₀ n at buffer) where
  pub so_far_end : length text ≤ at → file (take (4 * n) buffer) ≡ lines_of text
  so_far_end h =
      sym (lines_none (16384 - n) (n + 1) (take (4 * n) buffer))
      ∙ ap (λ (t : List ℕ). lines_from (16384 - n) (n + 1) t (take (4 * n) buffer)) (sym (drop_of_length-le text h))
      ∙ r.rest

  module _ (h : at < length text) where
    pub so_far_long : 16384 ≤ n → too_long ≡ lines_of text
    so_far_long k =
        let e : 16384 - n ≡ 0 = omega arith in
        sym (lines_long (drop at text) (some_left text at h) (n + 1) (take (4 * n) buffer))
        ∙ ap (λ (left : ℕ). lines_from left (n + 1) (drop at text) (take (4 * n) buffer)) (sym e)
        ∙ r.rest

    module _ (k : n < 16384) where
      one_less : 16384 - n ≡ suc (16384 - (n + 1))
      one_less = omega arith

      pub so_far_bad : line_at (drop at text) ≡ None → bad_line (n + 1) ≡ lines_of text
      so_far_bad e =
          sym (lines_bad (drop at text) (some_left text at h) (n + 1) (take (4 * n) buffer) (16384 - (n + 1)) (line_is_bad (drop at text) e))
          ∙ ap (λ (left : ℕ). lines_from left (n + 1) (drop at text) (take (4 * n) buffer)) (sym one_less)
          ∙ r.rest

      pub so_far_good : (w : List ℕ) {buffer' : List ℕ} → line_at (drop at text) ≡ Some w → buffer' ≡ written buffer (4 * n) w → SoFar text buffer₀ (n + 1) (at + 9) buffer'
      so_far_good w {buffer'} e z =
          let g : (word_line (drop at text) ≡ true) × (word (drop at text) ≡ w) = line_is_good (drop at text) w e in
          let four : length w ≡ 4 = ap length (sym g.1) in
          let next : 4 * (n + 1) ≡ 4 * n + length w = omega arith in
          let front : take (4 * (n + 1)) buffer' ≡ take (4 * n) buffer ++ word_bytes (drop at text) =
          ap (λ (l : List ℕ). take (4 * (n + 1)) l) z
          ∙ ap (λ (m : ℕ). take m (written buffer (4 * n) w)) next
          ∙ front-written buffer (4 * n) w (omega arith)
          ∙ ap (λ (v : List ℕ). take (4 * n) buffer ++ v) (sym g.1) in
          record {
            lines = omega arith;
            room = r.room;
            kept = ap length z ∙ length-written buffer (4 * n) w (omega arith) ∙ r.kept;
            rest =
                ap (λ (l : List ℕ). lines_from (16384 - (n + 1)) (n + 1 + 1) (drop (at + 9) text) l) front
                ∙ ap (λ (t : List ℕ). lines_from (16384 - (n + 1)) (n + 1 + 1) t (take (4 * n) buffer ++ word_bytes (drop at text))) (sym (drop-drop 9 at text))
                ∙ sym (lines_next (drop at text) (some_left text at h) (n + 1) (take (4 * n) buffer) (16384 - (n + 1)) g.0)
                ∙ ap (λ (left : ℕ). lines_from left (n + 1) (drop at text) (take (4 * n) buffer)) (sym one_less)
                ∙ r.rest;
          }
