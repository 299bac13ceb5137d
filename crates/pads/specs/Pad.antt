-- Document 01, "Pad", with the round of order 3: what the sponge takes for one sender and one receiver, the pad that comes of it, and the pads of a row.
-- Assumes nothing.
use Rattle.std.specs.Prelude.{List, [], ◌∷◌, ◌++◌, map, ℕ, zero, suc, ◌*◌, ◌%◌, replicate}
use Rattle.lists.specs.Blocks.{blocks, nth_piece}
use Rattle.residue.specs.Vector.{add_v}
use Rattle.shake.specs.Numbers.{numbers, bytes_of}
use Rattle.shake.specs.Shake.{shake256}

-- the six ASCII bytes ROWPAD
unfoldable pub rowpad : List ℕ
rowpad = 82 ∷ 79 ∷ 87 ∷ 80 ∷ 65 ∷ 68 ∷ []

-- the place of a row: the modulus of the keys that it is under, the output wire and the component
pub record Under : Type 0 where
  pub modulus : ℕ
  pub wire : ℕ
  pub component : ℕ

-- the place of a row, from its numbers
abbrev pub placed : ℕ → ℕ → ℕ → Under
placed modulus wire component = record { modulus = modulus; wire = wire; component = component }

-- what a pad is bound to in its round: the sender key's modulus (1 byte), the output wire's number (4 bytes, little-endian), component (1),
-- receiver (1), the K bytes of the sender's key
unfoldable pub bound : Under → ℕ → List ℕ → List ℕ
bound under receiver key = under.modulus ∷ (bytes_of 4 under.wire ++ (under.component ∷ receiver ∷ key))

-- what the sponge takes: ROWPAD, the round (4 bytes, little-endian), and what the pad is bound to in it
unfoldable pub pad_input : ℕ → List ℕ → List ℕ
pad_input round input = rowpad ++ (bytes_of 4 round ++ input)

-- any function of the receiving modulus, the key length and what a pad is bound to that could stand for the pad of a round
abbrev pub Pad : Type 0
Pad = ℕ → ℕ → List ℕ → List ℕ

-- the pad of a round: of 8K squeezed bytes, each 8 make a little-endian number, reduced modulo the receiving modulus q
unfoldable pub shake_pad : ℕ → Pad
shake_pad round q K input = map (λ x. x % q) (numbers (shake256 (pad_input round input) (8 * K)))

module _ (pad : Pad) (K q : ℕ) (under : Under) (keys : List ℕ) where
  -- the pads of the first senders for a receiver, summed; sender j's key is part j of the keys
  unfoldable pub pad_sum : ℕ → ℕ → List ℕ
  pad_sum receiver zero = replicate K 0
  pad_sum receiver (suc j) = add_v q (pad_sum receiver j) (pad q K (bound under receiver (nth_piece keys K j)))

  -- the pads of all n senders for all n receivers
  unfoldable pub pad_row : ℕ → List ℕ
  pad_row n = blocks n (λ receiver. pad_sum receiver n)
