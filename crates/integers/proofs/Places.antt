-- The words of a file that is made of parts: behind so many whole words, those of what follows.
-- Assumes nothing.
use mathlib.Core.Path.{◌≡◌, refl, ap, ◌∙◌}
use mathlib.Core.List.{List, ◌++◌}
use Prim.Native.Nat.{ℕ, ◌+◌, ◌*◌, ◌≤◌, ◌<◌}
use native.Mathlib.Omega.{arith}
use lib.ListN.{length, get_or, length-append, get_or-append}
use lib.Seq.{get_or-append-add}
use Rattle.words.specs.Bits.{word_at}
use Rattle.words.specs.Encode.{file_of}
use Rattle.words.proofs.Files.{length-file}
use Rattle.circuit.specs.File.{words_in}
use Rattle.editor.proofs.Encoded.{word-at}

-- four elements that are the same
same_word :
    (xs ys : List ℕ) (i j : ℕ)
    → get_or xs (4 * i) 0 ≡ get_or ys (4 * j) 0
    → get_or xs (4 * i + 1) 0 ≡ get_or ys (4 * j + 1) 0
    → get_or xs (4 * i + 2) 0 ≡ get_or ys (4 * j + 2) 0
    → get_or xs (4 * i + 3) 0 ≡ get_or ys (4 * j + 3) 0
    → word_at xs i ≡ word_at ys j
same_word xs ys i j e f g h = rw (e, f, g, h) refl

-- the words of the front are the front's
module _ (front rest : List ℕ) (at : ℕ) (whole : length front ≡ 4 * at) where
  pub word_before : (i : ℕ) → i < at → word_at (front ++ rest) i ≡ word_at front i
  word_before i l =
      same_word (front ++ rest) front i i
      (get_or-append front rest 0 (4 * i) (omega arith))
      (get_or-append front rest 0 (4 * i + 1) (omega arith))
      (get_or-append front rest 0 (4 * i + 2) (omega arith))
      (get_or-append front rest 0 (4 * i + 3) (omega arith))

  element : (j k : ℕ) → j ≡ 4 * at + k → get_or (front ++ rest) j 0 ≡ get_or rest k 0
  element j k e =
      let f : j ≡ length front + k = omega (arith, e, whole) in
      ap (λ (n : ℕ). get_or (front ++ rest) n 0) f ∙ get_or-append-add front rest k 0

  -- and those behind it are the rest's
  word_behind : (i : ℕ) → word_at (front ++ rest) (at + i) ≡ word_at rest i
  word_behind i =
      same_word (front ++ rest) rest (at + i) i
      (element (4 * (at + i)) (4 * i) (omega arith))
      (element (4 * (at + i) + 1) (4 * i + 1) (omega arith))
      (element (4 * (at + i) + 2) (4 * i + 2) (omega arith))
      (element (4 * (at + i) + 3) (4 * i + 3) (omega arith))

-- these words stand in a file from an index on
pub record Stands (file : List ℕ) (at : ℕ) (words : List ℕ) : Type 0 where
  pub word : (i : ℕ) → i < length words → word_at file (at + i) ≡ get_or words i 0
  pub inside : at + length words ≤ words_in file

pub stands : (front words rest : List ℕ) (at : ℕ) → length front ≡ 4 * at → Stands (front ++ (file_of words ++ rest)) at words
stands front words rest at whole =
    record {
      word = λ i l. word_behind front (file_of words ++ rest) at whole i ∙ word_before (file_of words) rest (length words) (length-file words) i l ∙ word-at words i;
      inside = omega (arith, length-append front (file_of words ++ rest), length-append (file_of words) rest, length-file words, whole);
    }

-- of words one after another, the first and the others
module _ {file : List ℕ} {at : ℕ} (xs ys : List ℕ) (s : Stands file at (xs ++ ys)) where
  pub stands_left : Stands file at xs
  stands_left =
      record {
        word = λ i l. s.word i (omega (arith, length-append xs ys)) ∙ get_or-append xs ys 0 i l;
        inside = omega (arith, s.inside, length-append xs ys);
      }

  pub stands_right : Stands file (at + length xs) ys
  stands_right =
      record {
        word = λ i l.
            ap (word_at file) (next i) ∙ s.word (length xs + i) (omega (arith, length-append xs ys)) ∙ get_or-append-add xs ys i 0;
        inside = omega (arith, s.inside, length-append xs ys);
      }
    where
      next : (i : ℕ) → at + length xs + i ≡ at + (length xs + i)
      next i = omega arith
