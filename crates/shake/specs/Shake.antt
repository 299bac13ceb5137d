-- SHAKE256: the sponge of FIPS 202, section 4, over Keccak-f[1600] at the rate of 136 bytes, on the padded message of specs/Padding.antt.
-- A state is 25 lanes. Its first 17 lanes are its first 136 bytes, each lane little-endian.
-- Assumes nothing.
use Rattle.std.specs.Prelude.{ℕ, zero, suc, ◌-◌, ◌/◌, List, [], ◌∷◌, ◌++◌, length, take, drop, replicate}
use Rattle.std.specs.Int.Bits.{bit_xor}
use Rattle.keccak.specs.Keccak.{keccak_f}
use Rattle.shake.specs.Numbers.{numbers, bytes_of}
use Rattle.shake.specs.Padding.{rate, padded_message}

-- the first lanes of a state XORed with numbers; lanes past the numbers stay
unfoldable pub xored : List ℕ → List ℕ → List ℕ
xored [] ns = []
xored (x ∷ xs) [] = x ∷ xs
xored (x ∷ xs) (n ∷ ns) = bit_xor x n ∷ xored xs ns

-- a block of 136 bytes goes into the state
unfoldable pub absorb_block : List ℕ → List ℕ → List ℕ
absorb_block state block = keccak_f (xored state (numbers block))

-- n blocks, one after another
unfoldable pub absorb_blocks : ℕ → List ℕ → List ℕ → List ℕ
absorb_blocks zero state bytes = state
absorb_blocks (suc n) state bytes = absorb_blocks n (absorb_block state (take rate bytes)) (drop rate bytes)

-- the state of zeros
unfoldable pub zero_state : List ℕ
zero_state = replicate 25 0

-- the state that has taken in all of a message
unfoldable pub absorbed : List ℕ → List ℕ
absorbed message = absorb_blocks (length (padded_message message) / rate) zero_state (padded_message message)

-- the bytes of lanes
unfoldable pub lane_bytes : List ℕ → List ℕ
lane_bytes [] = []
lane_bytes (x ∷ xs) = bytes_of 8 x ++ lane_bytes xs

-- the first 136 bytes of the state, and then as many again, n times, each after a permutation
unfoldable pub squeeze_blocks : ℕ → List ℕ → List ℕ
squeeze_blocks zero state = take rate (lane_bytes state)
squeeze_blocks (suc n) state = take rate (lane_bytes state) ++ squeeze_blocks n (keccak_f state)

-- d bytes of output: past the first block, as many blocks as reach d, cut to d
unfoldable pub squeezed : ℕ → List ℕ → List ℕ
squeezed d state = take d (squeeze_blocks ((d - 1) / rate) state)

-- SHAKE256 of a byte string, d bytes of output
unfoldable pub shake256 : List ℕ → ℕ → List ℕ
shake256 message d = squeezed d (absorbed message)
