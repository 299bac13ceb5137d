-- The padded message of SHAKE256, on bits: FIPS 202, sections 5.1 (pad10*1), 6.2 (SHAKE256) and B.1 (the bits of a byte string).
-- Assumes nothing.
use Rattle.std.specs.Prelude.{ℕ, zero, suc, ◌+◌, ◌-◌, ◌*◌, ◌/◌, ◌%◌, List, [], ◌∷◌, ◌++◌, length, take, drop, replicate}

-- the n lowest bits of the number x, the least significant first
unfoldable pub bits_of : ℕ → ℕ → List ℕ
bits_of zero x = []
bits_of (suc n) x = x % 2 ∷ bits_of n (x / 2)

-- the bits of a byte string: eight for each byte
unfoldable pub message_bits : List ℕ → List ℕ
message_bits [] = []
message_bits (b ∷ bs) = bits_of 8 b ++ message_bits bs

-- the number whose bits these are, the least significant first
unfoldable pub number : List ℕ → ℕ
number [] = 0
number (b ∷ bs) = b + 2 * number bs

-- the first n bytes of a string of bits
unfoldable pub packed : ℕ → List ℕ → List ℕ
packed zero bits = []
packed (suc n) bits = number (take 8 bits) ∷ packed n (drop 8 bits)

-- pad10*1(x, m): 1, then j zeros, then 1, where j = (−m − 2) mod x
unfoldable pub pad10*1 : ℕ → ℕ → List ℕ
pad10*1 x m = 1 ∷ replicate ((x - (m + 2) % x) % x) 0 ++ (1 ∷ [])

-- what SHAKE256 sets behind the message
unfoldable pub suffix : List ℕ
suffix = 1 ∷ 1 ∷ 1 ∷ 1 ∷ []

-- the rate of SHAKE256: 136 bytes, which are 1088 bits
abbrev pub rate : ℕ
rate = 136

abbrev pub rate_bits : ℕ
rate_bits = 8 * rate

-- N = M ‖ 1111, and P = N ‖ pad10*1(rate, len(N))
unfoldable pub suffixed : List ℕ → List ℕ
suffixed m = message_bits m ++ suffix

unfoldable pub padded_bits : List ℕ → List ℕ
padded_bits m = suffixed m ++ pad10*1 rate_bits (length (suffixed m))

-- the same as bytes
unfoldable pub padded_message : List ℕ → List ℕ
padded_message m = packed (length (padded_bits m) / 8) (padded_bits m)
