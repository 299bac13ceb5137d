-- Laws of laying down: the four bytes of a word, one word, and the words of a table, one after another.
-- Assumes nothing.
use mathlib.Core.Path.{◌≡◌, sym, ap, ap₂, ◌∙◌}
use mathlib.Core.Bool.{Bool, cond}
use mathlib.Core.List.{List, [], ◌∷◌}
use Prim.Native.Nat.{ℕ, suc, ◌+◌, ◌*◌, ◌/◌, ◌%◌, ◌^◌, ◌≤◌, ◌<◌}
use native.Mathlib.Nat.{add-zero}
use native.Mathlib.Omega.{arith}
use lib.ListN.{length, get_or, drop, drop_of_length-le}
use lib.Seq.{drop-cons}
use borrow.Author.Tests.{le-leb, lt-leb}
use Rattle.std.specs.Int.{w32, to_le_bytes}
use Rattle.lists.specs.Blocks.{written}
use Rattle.words.specs.Encode.{bytes_of}
use Rattle.writer.specs.Desk.{put_word, put_words, entry_words}

-- the bytes of a word, as the library has them
pub bytes_are : (w : ℕ) → w < 2 ^ 32 → to_le_bytes w32 w ≡ bytes_of w
bytes_are w h = ap₂ (λ (a b : ℕ). w % 256 ∷ a ∷ b ∷ w / 256 ^ 3 % 256 ∷ []) (omega arith) (omega arith) ∙ ap (λ (a : ℕ). w % 256 ∷ w / 256 % 256 ∷ w / 65536 % 256 ∷ a ∷ []) (omega arith)

-- one word, where it has room, and where it has none
module _ (file : List ℕ) (at w : ℕ) where
  pub put_fits : {after : List ℕ} → 4 * at + 4 ≤ length file → after ≡ written file (4 * at) (bytes_of w) → after ≡ put_word file at w
  unfolding put_word
  put_fits h e = e ∙ sym (ap (λ (b : Bool). cond b (written file (4 * at) (bytes_of w)) file) (le-leb (4 * at + 4) (length file) h))

  pub put_not : length file < 4 * at + 4 → file ≡ put_word file at w
  unfolding put_word
  put_not h = sym (ap (λ (b : Bool). cond b (written file (4 * at) (bytes_of w)) file) (lt-leb (4 * at + 4) (length file) h))

-- the words of a table: one is put down, and the others are those left
pub put_next :
    (file : List ℕ) (at i : ℕ) (images : List ℕ) {w : ℕ} {after : List ℕ}
    → i < length images
    → w ≡ 0x7000_0000 + get_or images i 0
    → after ≡ put_word file (at + i) w
    → put_words after (at + (i + 1)) (entry_words (drop (i + 1) images)) ≡ put_words file (at + i) (entry_words (drop i images))
unfolding put_words
put_next file at i images {w} {after} h e f =
    let s : i + 1 ≡ suc i = omega arith in
    let t : at + (i + 1) ≡ suc (at + i) = omega arith in
    sym
    (ap (λ (xs : List ℕ). put_words file (at + i) (entry_words xs)) (drop-cons images i 0 h)
    ∙ ap (λ (v : ℕ). put_words (put_word file (at + i) v) (suc (at + i)) (entry_words (drop (suc i) images))) (sym e)
    ∙ ap₂ (λ (l : List ℕ) (k : ℕ). put_words l k (entry_words (drop (suc i) images))) (sym f) (sym t)
    ∙ ap (λ (k : ℕ). put_words after (at + (i + 1)) (entry_words (drop k images))) (sym s))

pub put_start : (file : List ℕ) (at : ℕ) (images : List ℕ) → put_words file (at + 0) (entry_words (drop 0 images)) ≡ put_words file at (entry_words images)
put_start file at images = ap (λ (k : ℕ). put_words file k (entry_words images)) (add-zero at)

pub put_done :
    (file : List ℕ) (at i : ℕ) (images : List ℕ) → length images ≤ i → file ≡ put_words file (at + i) (entry_words (drop i images))
unfolding put_words
put_done file at i images h = sym (ap (λ (xs : List ℕ). put_words file (at + i) (entry_words xs)) (drop_of_length-le images h))
