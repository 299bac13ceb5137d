-- What a byte comes to in a lane, and lists of bytes.
-- Assumes nothing.
use mathlib.Core.Path.{◌≡◌}
use Prim.Native.Nat.{ℕ, zero, suc, ◌*◌, ◌%◌, ◌^◌, ◌<◌}
use mathlib.Core.List.{List, [], ◌∷◌, ◌++◌}
use native.Mathlib.Omega.{arith}
use lib.Dec.{lit<}
use lib.ListN.{get_or, take, drop, replicate}
use lib.Pow.{shl_exact}

-- a list of bytes; past the end it reads 0
abbrev pub Bytes : List ℕ → Type 0
Bytes bs = (i : ℕ) → get_or bs i 0 < 256

-- a byte that is shifted to its place in a lane loses no bits
pub byte_shift : (b k : ℕ) → b < 256 → k < 8 → b * 2 ^ (8 * k) % 2 ^ 64 ≡ b * 2 ^ (8 * k)
byte_shift b k hb hk = shl_exact 8 (8 * k) 64 hb (omega arith)

pub head_byte : (b : ℕ) (bs : List ℕ) → Bytes (b ∷ bs) → b < 256
head_byte b bs h = h 0

pub tail_bytes : (b : ℕ) (bs : List ℕ) → Bytes (b ∷ bs) → Bytes bs
tail_bytes b bs h i = h (suc i)

pub bytes_none : Bytes []
bytes_none i = lit< tt

pub bytes_cons : (b : ℕ) (bs : List ℕ) → b < 256 → Bytes bs → Bytes (b ∷ bs)
bytes_cons b bs h hs zero = h
bytes_cons b bs h hs (suc i) = hs i

pub bytes_append : (xs ys : List ℕ) → Bytes xs → Bytes ys → Bytes (xs ++ ys)
bytes_append [] ys h k = k
bytes_append (x ∷ xs) ys h k = bytes_cons x (xs ++ ys) (head_byte x xs h) (bytes_append xs ys (tail_bytes x xs h) k)

pub bytes_zeros : (n : ℕ) → Bytes (replicate n 0)
bytes_zeros zero = bytes_none
bytes_zeros (suc n) = bytes_cons 0 (replicate n 0) (lit< tt) (bytes_zeros n)

pub bytes_take : (n : ℕ) (bs : List ℕ) → Bytes bs → Bytes (take n bs)
bytes_take zero bs h = bytes_none
bytes_take (suc n) [] h = bytes_none
bytes_take (suc n) (b ∷ bs) h = bytes_cons b (take n bs) (head_byte b bs h) (bytes_take n bs (tail_bytes b bs h))

pub bytes_drop : (n : ℕ) (bs : List ℕ) → Bytes bs → Bytes (drop n bs)
bytes_drop zero bs h = h
bytes_drop (suc n) [] h = bytes_none
bytes_drop (suc n) (b ∷ bs) h = bytes_drop n bs (tail_bytes b bs h)
