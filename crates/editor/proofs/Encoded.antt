-- The word of an item whose fields fit says that item; and the words of a file that is made of words are those words.
-- Assumes nothing.
use mathlib.Core.Path.{◌≡◌, refl, sym, ap, ap₂, ◌∙◌}
use mathlib.Core.Bool.{Bool, true, ◌&&◌}
use mathlib.Core.List.{List, [], ◌∷◌}
use Prim.Native.Nat.{ℕ, zero, suc, ◌+◌, ◌*◌, ◌/◌, ◌%◌, ◌<◌}
use native.Mathlib.Omega.{arith}
use lib.Dec.{lit<}
use lib.ListN.{length, get_or}
use borrow.Author.Tests.{eq-eqb}
use Rattle.words.specs.Bits.{word_at, bits, clear, kind, owner, input_modulus, wire_a, wire_b, named, one_wire, constant, image}
use Rattle.words.specs.Items.{judged}
use Rattle.words.specs.Reading.{said, by_kind, said_by, does, read_word, Said, Says}
use Rattle.words.specs.Encode.{word_of, file_of}
use Rattle.words.specs.Fits.{Fits}
use Rattle.words.specs.declared.gate.Due.{Due}
use Rattle.words.specs.declared.item.Item.{Item}
use Rattle.words.specs.declared.item.Item.TheVariants.{Input, Add, Scale, Multiply, Project, Entry, Select, Branches, Output}
use Rattle.words.proofs.Files.{length-file}
use Rattle.words.proofs.Steps.{of_kind}
use Rattle.circuit.specs.File.{words_in}

-- the bits that must be zero are zero
spoken : {b : Bool} {x y : Item} → b ≡ true → x ≡ y → said b x ≡ Says y
unfolding said
spoken e f = rw e (ap Says f)

-- what is said by a word of a kind
by-kind : (w k : ℕ) {s : Said} → kind w ≡ k → get_or (by_kind w) k Said.Nothing ≡ s → said_by w ≡ s
by-kind w k e f = sym (of_kind w k e) ∙ f

-- two fields, the first from bit 10 up, behind a kind
module _ (k a b : ℕ) (kk : k < 16) (aa : a < 1024) (bb : b < 1024) where
  two_kind : kind (268435456 * k + 1024 * a + b) ≡ k
  two_kind = omega arith

  two_clear : clear (268435456 * k + 1024 * a + b) 27 20 ≡ true
  two_clear = eq-eqb (bits (268435456 * k + 1024 * a + b) 27 20) 0 (omega arith)

  two_a : wire_a (268435456 * k + 1024 * a + b) ≡ a
  two_a = omega arith

  two_b : wire_b (268435456 * k + 1024 * a + b) ≡ b
  two_b = omega arith

  pair : (item : ℕ → ℕ → Item)
      → said (clear (268435456 * k + 1024 * a + b) 27 20) (item (wire_a (268435456 * k + 1024 * a + b)) (wire_b (268435456 * k + 1024 * a + b))) ≡ Says (item a b)
  pair item = spoken two_clear (ap₂ item two_a two_b)

-- .. and a first field of 8 bits
module _ (k a b : ℕ) (kk : k < 16) (aa : a < 256) (bb : b < 1024) where
  byte_clear : clear (268435456 * k + 1024 * a + b) 27 18 ≡ true
  byte_clear = eq-eqb (bits (268435456 * k + 1024 * a + b) 27 18) 0 (omega arith)

  byte_a : constant (268435456 * k + 1024 * a + b) ≡ a
  byte_a = omega arith

  byte_pair : (item : ℕ → ℕ → Item)
      → said (clear (268435456 * k + 1024 * a + b) 27 18) (item (constant (268435456 * k + 1024 * a + b)) (one_wire (268435456 * k + 1024 * a + b))) ≡ Says (item a b)
  byte_pair item = spoken byte_clear (ap₂ item byte_a (two_b k a b kk (omega arith) bb))

-- .. so that an output's word names whom the output does
pub names_of : (n a : ℕ) → Fits (Output n a) → named (word_of (Output n a)) ≡ n
names_of n a (Fits.output f g) = byte_a 10 n a (lit< tt) f g

pub names-byte : {n a : ℕ} → Fits (Output n a) → n < 256
names-byte (Fits.output f g) = f

-- one wire behind a kind
module _ (k a : ℕ) (kk : k < 16) (aa : a < 1024) where
  one_kind : kind (268435456 * k + a) ≡ k
  one_kind = omega arith

  one_clear : clear (268435456 * k + a) 27 10 ≡ true
  one_clear = eq-eqb (bits (268435456 * k + a) 27 10) 0 (omega arith)

  one_a : one_wire (268435456 * k + a) ≡ a
  one_a = omega arith

  one : (item : ℕ → Item) → said (clear (268435456 * k + a) 27 10) (item (one_wire (268435456 * k + a))) ≡ Says (item a)
  one item = spoken one_clear (ap item one_a)

-- an image
module _ (a : ℕ) (aa : a < 256) where
  entry_kind : kind (0x7000_0000 + a) ≡ 7
  entry_kind = omega arith

  entry_clear : clear (0x7000_0000 + a) 27 8 ≡ true
  entry_clear = eq-eqb (bits (0x7000_0000 + a) 27 8) 0 (omega arith)

  pub entry-image : image (0x7000_0000 + a) ≡ a
  entry-image = omega arith

-- an owner and a modulus
module _ (a b : ℕ) (aa : a < 256) (bb : b < 256) where
  input_kind : kind (0x2000_0000 + 65536 * a + b) ≡ 2
  input_kind = omega arith

  input_high : clear (0x2000_0000 + 65536 * a + b) 27 24 ≡ true
  input_high = eq-eqb (bits (0x2000_0000 + 65536 * a + b) 27 24) 0 (omega arith)

  input_low : clear (0x2000_0000 + 65536 * a + b) 15 8 ≡ true
  input_low = eq-eqb (bits (0x2000_0000 + 65536 * a + b) 15 8) 0 (omega arith)

  input_owner : owner (0x2000_0000 + 65536 * a + b) ≡ a
  input_owner = omega arith

  input-modulus : input_modulus (0x2000_0000 + 65536 * a + b) ≡ b
  input-modulus = omega arith

pub encoded : {x : Item} → Fits x → said_by (word_of x) ≡ Says x
unfolding said
encoded Fits.head = refl
encoded (Fits.input {owner = o} {modulus = m} f g) =
    by-kind _ 2 (input_kind o m f g) (spoken (ap₂ ◌&&◌ (input_high o m f g) (input_low o m f g)) (ap₂ Input (input_owner o m f g) (input-modulus o m f g)))
encoded (Fits.add {a} {b} f g) = by-kind _ 3 (two_kind 3 a b (lit< tt) f g) (pair 3 a b (lit< tt) f g Add)
encoded (Fits.scale {constant = c} {a} f g) = by-kind _ 4 (two_kind 4 c a (lit< tt) (omega arith) g) (byte_pair 4 c a (lit< tt) f g Scale)
encoded (Fits.multiply {a} {b} f g) = by-kind _ 5 (two_kind 5 a b (lit< tt) f g) (pair 5 a b (lit< tt) f g Multiply)
encoded (Fits.project {modulus = m} {a} f g) = by-kind _ 6 (two_kind 6 m a (lit< tt) (omega arith) g) (byte_pair 6 m a (lit< tt) f g Project)
encoded (Fits.entry {image = a} f) = by-kind _ 7 (entry_kind a f) (spoken (entry_clear a f) (ap Entry (entry-image a f)))
encoded (Fits.select {bit = a} f) = by-kind _ 8 (one_kind 8 a (lit< tt) f) (one 8 a (lit< tt) f Select)
encoded (Fits.branches {a} {b} f g) = by-kind _ 9 (two_kind 9 a b (lit< tt) f g) (pair 9 a b (lit< tt) f g Branches)
encoded (Fits.output {named = n} {a} f g) = by-kind _ 10 (two_kind 10 n a (lit< tt) (omega arith) g) (byte_pair 10 n a (lit< tt) f g Output)
encoded Fits.end = refl

-- .. so that the reader does what is judged of the item
pub read_encoded : (moduli : List ℕ) (given at : ℕ) (due : Due) {x : Item} → Fits x → read_word moduli given at due (word_of x) ≡ judged moduli given at due x
unfolding read_word
read_encoded moduli given at due f = ap (does moduli given at due) (encoded f)

-- a word is its four bytes
module _ (w : ℕ) where
  high_byte : w / 65536 ≡ 256 * (w / 16777216) + w / 65536 % 256
  high_byte = omega arith

  middle_byte : w / 256 ≡ 256 * (w / 65536) + w / 256 % 256
  middle_byte = omega arith

  low_byte : w ≡ 256 * (w / 256) + w % 256
  low_byte = omega arith

  four_bytes : w % 256 + 256 * (w / 256 % 256) + 65536 * (w / 65536 % 256) + 16777216 * (w / 16777216) ≡ w
  four_bytes = four w (w / 256) (w / 65536) (w / 16777216) (w % 256) (w / 256 % 256) (w / 65536 % 256) low_byte middle_byte high_byte
    where
      four : (w u v t a b c : ℕ) → w ≡ 256 * u + a → u ≡ 256 * v + b → v ≡ 256 * t + c → a + 256 * b + 65536 * c + 16777216 * t ≡ w
      four w u v t a b c e f g = omega arith

-- four elements in front
get_or_four : (a b c d : ℕ) (xs : List ℕ) (i j : ℕ) → j ≡ suc (suc (suc (suc i))) → get_or (a ∷ b ∷ c ∷ d ∷ xs) j 0 ≡ get_or xs i 0
get_or_four a b c d xs i j e = rw e refl

next_word : (a b c d : ℕ) (xs : List ℕ) (i : ℕ) → word_at (a ∷ b ∷ c ∷ d ∷ xs) (suc i) ≡ word_at xs i
next_word a b c d xs i =
    rw (
      get_or_four a b c d xs (4 * i) (4 * suc i) (omega arith),
      get_or_four a b c d xs (4 * i + 1) (4 * suc i + 1) (omega arith),
      get_or_four a b c d xs (4 * i + 2) (4 * suc i + 2) (omega arith),
      get_or_four a b c d xs (4 * i + 3) (4 * suc i + 3) (omega arith),
    )
    refl

pub word-at : (ws : List ℕ) (i : ℕ) → word_at (file_of ws) i ≡ get_or ws i 0
unfolding file_of
word-at [] zero = refl
word-at [] (suc i) = none (suc i)
  where
    none : (i : ℕ) → word_at [] i ≡ 0
    none i = refl
word-at (w ∷ ws) zero = four_bytes w
word-at (w ∷ ws) (suc i) = next_word (w % 256) (w / 256 % 256) (w / 65536 % 256) (w / 16777216) (file_of ws) i ∙ word-at ws i

pub words-in : (ws : List ℕ) → words_in (file_of ws) ≡ length ws
words-in ws = omega (arith, length-file ws)
