-- Files by their words: a word of bytes is below 2^32, words one after another have their bytes one after another, and a file of whole words is the
-- bytes of its words.
-- Assumes nothing.
use mathlib.Core.Path.{◌≡◌, refl, sym, ap, ◌∙◌}
use mathlib.Core.List.{List, [], ◌∷◌, ◌++◌}
use Prim.Native.Nat.{ℕ, zero, suc, ◌+◌, ◌*◌, ◌/◌, ◌%◌, ◌≤◌, ◌<◌}
use native.Mathlib.Decide.{dec_lt}
use native.Mathlib.Omega.{arith}
use lib.ListN.{length, get_or, get_or-eq_default}
use lib.Seq.{drop-cons}
use Rattle.lists.specs.Blocks.{blocks, tab, part, nth_piece}
use Rattle.lists.proofs.Blocks.{blocks_ext, blocks_nth}
use Rattle.words.specs.Bits.{word_at}
use Rattle.words.specs.Encode.{bytes_of, file_of}
use Rattle.words.proofs.Files.{file_append}
use Rattle.circuit.specs.File.{words_in}
use Rattle.editor.specs.Promise.{Bytes}

-- an element of a file of bytes, and 0 past its end
pub element : (file : List ℕ) → Bytes file → (i : ℕ) → get_or file i 0 < 256
element file b i = by (dec_lt i (length file))
  where
    by : Dec (i < length file) → get_or file i 0 < 256
    by (yes h) = b.byte i h
    by (no n) = let past : length file ≤ i = omega (arith, n) in rw (get_or-eq_default file 0 past) (omega arith)

pub word_below : (file : List ℕ) → Bytes file → (i : ℕ) → word_at file i < 4294967296
word_below file b i =
    omega (arith, element file b (4 * i), element file b (4 * i + 1), element file b (4 * i + 2), element file b (4 * i + 3))

-- the four bytes of a word are those that it was made of
module _ (a b c d : ℕ) (small-a : a < 256) (small_b : b < 256) (small-c : c < 256) (small-d : d < 256) where
  first : (a + 256 * b + 65536 * c + 16777216 * d) % 256 ≡ a
  first = omega arith

  second : (a + 256 * b + 65536 * c + 16777216 * d) / 256 % 256 ≡ b
  second = omega arith

  third : (a + 256 * b + 65536 * c + 16777216 * d) / 65536 % 256 ≡ c
  third = omega arith

  fourth : (a + 256 * b + 65536 * c + 16777216 * d) / 16777216 ≡ d
  fourth = omega arith

  of_bytes : bytes_of (a + 256 * b + 65536 * c + 16777216 * d) ≡ a ∷ b ∷ c ∷ d ∷ []
  of_bytes = rw (first, second, third, fourth)

-- four elements in a row
four : (xs : List ℕ) (at : ℕ) → at + 4 ≤ length xs
    → part xs at 4 ≡ get_or xs at 0 ∷ get_or xs (suc at) 0 ∷ get_or xs (suc (suc at)) 0 ∷ get_or xs (suc (suc (suc at))) 0 ∷ []
unfolding part
four xs at h =
    rw (
      drop-cons xs at 0 (omega arith),
      drop-cons xs (suc at) 0 (omega arith),
      drop-cons xs (suc (suc at)) 0 (omega arith),
      drop-cons xs (suc (suc (suc at))) 0 (omega arith),
    )

pub file-tab : (n : ℕ) (f : ℕ → ℕ) → file_of (tab n f) ≡ blocks n (λ i. bytes_of (f i))
unfolding file_of blocks
file-tab zero f = refl
file-tab (suc n) f = file_append (tab n f) (f n ∷ []) ∙ ap (λ (l : List ℕ). l ++ bytes_of (f n)) (file-tab n f)

module _ (file : List ℕ) (b : Bytes file) where
  word_bytes : (i : ℕ) → 4 * suc i ≤ length file → bytes_of (word_at file i) ≡ nth_piece file 4 i
  word_bytes i h =
      of_bytes _ _ _ _ (element file b (4 * i)) (element file b (4 * i + 1)) (element file b (4 * i + 2)) (element file b (4 * i + 3))
      ∙ sym (ap (λ (k : ℕ). part file k 4) place ∙ four file (4 * i) (omega arith) ∙ rw (three, two, one))
    where
      place : i * 4 ≡ 4 * i
      place = omega arith

      one : suc (4 * i) ≡ 4 * i + 1
      one = omega arith

      two : suc (suc (4 * i)) ≡ 4 * i + 2
      two = omega arith

      three : suc (suc (suc (4 * i))) ≡ 4 * i + 3
      three = omega arith

  -- a file of whole words
  pub whole_words : length file ≡ 4 * words_in file → file_of (tab (words_in file) (word_at file)) ≡ file
  whole_words e =
      file-tab (words_in file) (word_at file)
      ∙ blocks_ext (words_in file) (λ i. bytes_of (word_at file i)) (λ i. nth_piece file 4 i) (λ i h. word_bytes i (omega (arith, e)))
      ∙ blocks_nth (words_in file) 4 file (omega (arith, e))
