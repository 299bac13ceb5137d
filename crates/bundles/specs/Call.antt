-- Document 02, order 5: the calls of bundles, each with its checks in order and what it writes. None is lent a circuit, and the place of every
-- refusal is 0.
-- Assumes nothing.
use Rattle.std.specs.Prelude.{◌≡◌, Bool, ◌&&◌, List, ℕ, ◌+◌, ◌*◌, eqb, leb, ltb, length}
use Rattle.checks.specs.declared.Refusal.TheVariants.{NotMade, TooMany, WrongLength, TooShort, BundleRange, IntegerTooLarge}
use Rattle.checks.specs.Checked.{Reports, and_then, unless, afterwards}
use Rattle.writer.specs.Call.{file_with}
use Rattle.bundles.specs.declared.operation.Operation.{Operation}
use Rattle.bundles.specs.Primes.{product}
use Rattle.bundles.specs.Integers.{split, join, all_below}
use Rattle.bundles.specs.Part.{part_words}
use Rattle.checks.specs.Answer.{Answer, accepts}

-- 23: "r from 2 to 10"
unfoldable pub range_checked : ℕ → Answer
range_checked r = unless (leb 2 r && leb r 10) BundleRange 0

-- 14: a residue buffer has a byte for each prime
abbrev pub size_checked : ℕ → ℕ → Answer
size_checked r size = unless (eqb size r) WrongLength 0

-- 24: an integer is below the product
abbrev pub integer_checked : ℕ → ℕ → Answer
integer_checked r x = unless (ltb x (product r)) IntegerTooLarge 0

-- splitting an integer into so many bytes
unfoldable pub split_checked : ℕ → ℕ → ℕ → Answer
split_checked r x size = and_then (range_checked r) (and_then (size_checked r size) (integer_checked r x))

pub record SplitCall (r x : ℕ) (residues₀ : List ℕ) (number place : ℕ) (residues : List ℕ) : Type 0 where
  pub answer : Reports (split_checked r x (length residues₀)) number place
  pub residues_are : residues ≡ afterwards (split_checked r x (length residues₀)) (split r x) residues₀

-- joining residues
unfoldable pub join_checked : ℕ → List ℕ → Answer
join_checked r residues = and_then (range_checked r) (and_then (size_checked r (length residues)) (unless (all_below r residues) IntegerTooLarge 0))

pub record JoinCall (r : ℕ) (residues : List ℕ) (integer₀ : ℕ) (number place integer : ℕ) : Type 0 where
  pub answer : Reports (join_checked r residues) number place
  pub integer_is : integer ≡ afterwards (join_checked r residues) (join r residues) integer₀

-- 24 for a part: the constant of a scaling
abbrev pub constant_checked : Operation → ℕ → Answer
constant_checked (Operation.Add b) r = accepts
constant_checked (Operation.Multiply b) r = accepts
constant_checked (Operation.Scale constant) r = integer_checked r constant

-- 5: each bundle is wholly below the part's first wire
abbrev pub are_below : Operation → ℕ → ℕ → ℕ → Bool
are_below (Operation.Add b) r first a = leb (a + r) first && leb (b + r) first
are_below (Operation.Multiply b) r first a = leb (a + r) first && leb (b + r) first
are_below (Operation.Scale constant) r first a = leb (a + r) first

-- 5; 8, a 1,025th wire; 22, a buffer of so many bytes
abbrev pub place_checked : Operation → ℕ → ℕ → ℕ → ℕ → Answer
place_checked operation r first a size =
    and_then (unless (are_below operation r first a) NotMade 0)
    (and_then (unless (leb (first + r) 1024) TooMany 0)
    (unless (leb (4 * length (part_words operation r a)) size) TooShort 0))

-- writing a part
unfoldable pub part_checked : Operation → ℕ → ℕ → ℕ → ℕ → Answer
part_checked operation r first a size = and_then (range_checked r) (and_then (constant_checked operation r) (place_checked operation r first a size))

-- the words stand at the front of the buffer, as in order 1
pub record PartCall (operation : Operation) (r first a : ℕ) (file₀ : List ℕ) (words₀ : ℕ) (number place : ℕ) (file : List ℕ) (words : ℕ) : Type 0 where
  pub answer : Reports (part_checked operation r first a (length file₀)) number place
  pub file_is : file ≡ afterwards (part_checked operation r first a (length file₀)) (file_with (part_words operation r a) file₀) file₀
  pub words_is : words ≡ afterwards (part_checked operation r first a (length file₀)) (length (part_words operation r a)) words₀
