-- Numbers and bytes: a byte list read as little-endian numbers, and a number written as bytes.
-- Assumes nothing.
use Rattle.std.specs.Prelude.{ℕ, zero, suc, ◌+◌, ◌*◌, ◌/◌, ◌%◌, List, [], ◌∷◌, length, take, drop}

-- the number whose digits to the base 256 are the bytes, the least significant first
unfoldable pub little_endian : List ℕ → ℕ
little_endian [] = 0
little_endian (b ∷ bs) = b + 256 * little_endian bs

-- the first n numbers of the list, each of eight bytes
unfoldable pub first_numbers : ℕ → List ℕ → List ℕ
first_numbers zero bs = []
first_numbers (suc n) bs = little_endian (take 8 bs) ∷ first_numbers n (drop 8 bs)

-- a byte list's little-endian 8-byte numbers, in turn
unfoldable pub numbers : List ℕ → List ℕ
numbers bs = first_numbers (length bs / 8) bs

-- the n lowest bytes of the number x, the least significant first
unfoldable pub bytes_of : ℕ → ℕ → List ℕ
bytes_of zero x = []
bytes_of (suc n) x = x % 256 ∷ bytes_of n (x / 256)
