-- A run of entries that nothing refuses, so that a file's reader may pass over them at once.
-- Assumes nothing.
use Rattle.std.specs.Prelude.{◌≡◌, Bool, true, false, ◌&&◌, List, ℕ, ◌+◌, ◌≤◌, ◌<◌, eqb, ltb}
use Rattle.words.specs.Bits.{kind, clear, image, word_at}

-- a word is an entry, no other bit is set, and its image is below a modulus
abbrev pub good_entry : ℕ → ℕ → Bool
good_entry modulus w = eqb (kind w) 7 && (clear w 27 8 && ltb (image w) modulus)

-- the `count` words of a file from an index on are all good entries
abbrev pub GoodTo : List ℕ → ℕ → ℕ → ℕ → Type 0
GoodTo file from count modulus = (i : ℕ) → i < count → good_entry modulus (word_at file (from + i)) ≡ true

-- of the `count` words of a file from an index on, the first r are good entries, and the next one, if there is one, is not
pub record GoodEntries (file : List ℕ) (from count modulus r : ℕ) : Type 0 where
  pub most : r ≤ count
  pub good : GoodTo file from r modulus
  pub stops : r < count → good_entry modulus (word_at file (from + r)) ≡ false
