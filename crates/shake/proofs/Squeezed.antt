-- The bytes and the numbers that the loops give out are those of the definition: the bytes of block after block, and their 8-byte numbers.
-- Assumes nothing.
use mathlib.Core.Path.{◌≡◌, refl, sym, ap, subst, ◌∙◌}
use Prim.Native.Nat.{ℕ, zero, suc, ◌+◌, ◌-◌, ◌*◌, ◌/◌, ◌%◌, ◌^◌, ◌<◌, ◌≤◌}
use mathlib.Core.List.{List, [], ◌∷◌, ◌++◌}
use native.Mathlib.Numerals.{add-one}
use native.Mathlib.Nat.{add-div_left, add-mod_left, mul-div_right, mod-add-div, mod-lt, mod-eq_of_lt, div-eq_of_lt}
use native.Mathlib.Decide.{dec_lt}
use native.Mathlib.Omega.{arith}
use lib.Dec.{lit<, lit≤}
use lib.Pow.{shr-shr, shr_lt}
use lib.ListN.{length, get_or, take, drop, get_or-append, length-append}
use lib.Seq.{get_or-append-add, drop-cons, take-take, take-append-add, length-take-le, take_at, drop_at, drop-append-add}
use Rattle.keccak.specs.Keccak.{keccak_f}
use Rattle.keccak.proofs.Fits.{Fits, keccak_f-length, keccak_f-fits}
use Rattle.shake.specs.Numbers.{little_endian, first_numbers, numbers, bytes_of}
use Rattle.shake.specs.Shake.{lane_bytes, squeeze_blocks, squeezed}
use Rattle.shake.specs.Read.{byte_at, lane_at, stream}
use Rattle.shake.proofs.Stream.{stream_length, next-within, stream_step, past}

-- ---- bytes of lanes

pub bytes_of-length : (n x : ℕ) → length (bytes_of n x) ≡ n
unfolding bytes_of
bytes_of-length zero x = refl
bytes_of-length (suc n) x = ap suc (bytes_of-length n (x / 256))

-- byte k of a number
bytes_of-at : (n x k : ℕ) → k < n → get_or (bytes_of n x) k 0 ≡ x / 2 ^ (8 * k) % 256
unfolding bytes_of
bytes_of-at zero x k h = absurd (omega arith)
bytes_of-at (suc n) x zero h = ap (λ (y : ℕ). y % 256) (sym (native.Mathlib.Nat.div-one x))
bytes_of-at (suc n) x (suc k) h =
    bytes_of-at n (x / 256) k (omega arith) ∙ ap (λ (y : ℕ). y % 256) (shr-shr x 8 (8 * k) ∙ ap (λ (e : ℕ). x / 2 ^ e) places)
  where
    places : 8 + 8 * k ≡ 8 * suc k
    places = omega arith

pub lane_bytes-length : (xs : List ℕ) → length (lane_bytes xs) ≡ 8 * length xs
unfolding lane_bytes
lane_bytes-length [] = refl
lane_bytes-length (x ∷ xs) = length-append (bytes_of 8 x) (lane_bytes xs) ∙ rw (bytes_of-length 8 x, lane_bytes-length xs) (omega arith)

-- eight places on is the next lane
byte_at-next : (x : ℕ) (xs : List ℕ) (m : ℕ) → byte_at (x ∷ xs) (8 + m) ≡ byte_at xs m
byte_at-next x xs m = rw (add-div_left m {k = 8} (lit< tt), add-mod_left 8 m, add-one (m / 8))

bytes_next : (x : ℕ) (ys : List ℕ) (m : ℕ) → get_or (bytes_of 8 x ++ ys) (8 + m) 0 ≡ get_or ys m 0
bytes_next x ys m = ap (λ (n : ℕ). get_or (bytes_of 8 x ++ ys) (n + m) 0) (sym (bytes_of-length 8 x)) ∙ get_or-append-add (bytes_of 8 x) ys m 0

lane_bytes-at : (xs : List ℕ) (k : ℕ) → get_or (lane_bytes xs) k 0 ≡ byte_at xs k
unfolding lane_bytes
lane_bytes-at [] k = sym (ap (λ (y : ℕ). y % 256) (native.Mathlib.Nat.zero-div (2 ^ (8 * (k % 8)))))
lane_bytes-at (x ∷ xs) k = go (dec_lt k 8) (lane_bytes-at xs (k - 8))
  where
    low : k < 8 → get_or (bytes_of 8 x ++ lane_bytes xs) k 0 ≡ byte_at (x ∷ xs) k
    low h = get_or-append (bytes_of 8 x) (lane_bytes xs) 0 k (rw (bytes_of-length 8 x) h) ∙ bytes_of-at 8 x k h ∙ sym (rw (div-eq_of_lt h, mod-eq_of_lt h))

    high : (m : ℕ) → get_or (lane_bytes xs) m 0 ≡ byte_at xs m → get_or (bytes_of 8 x ++ lane_bytes xs) (8 + m) 0 ≡ byte_at (x ∷ xs) (8 + m)
    high m ih = bytes_next x (lane_bytes xs) m ∙ ih ∙ sym (byte_at-next x xs m)

    go : Dec (k < 8) → get_or (lane_bytes xs) (k - 8) 0 ≡ byte_at xs (k - 8) → get_or (bytes_of 8 x ++ lane_bytes xs) k 0 ≡ byte_at (x ∷ xs) k
    go (yes h) ih = low h
    go (no h) ih = let e : 8 + (k - 8) ≡ k = omega arith in subst (λ (n : ℕ). get_or (bytes_of 8 x ++ lane_bytes xs) n 0 ≡ byte_at (x ∷ xs) n) e (high (k - 8) ih)

-- the eight bytes of lane j
lane-part : (xs : List ℕ) (j : ℕ) → j < length xs → take 8 (drop (8 * j) (lane_bytes xs)) ≡ bytes_of 8 (get_or xs j 0)
unfolding lane_bytes
lane-part [] j h = absurd (omega arith)
lane-part (x ∷ xs) zero h = take_at (bytes_of 8 x) (lane_bytes xs) 8 (bytes_of-length 8 x)
lane-part (x ∷ xs) (suc j) h = ap (λ (ys : List ℕ). take 8 ys) (ap (λ (n : ℕ). drop n (bytes_of 8 x ++ lane_bytes xs)) places ∙ drop-append-add (bytes_of 8 x) (lane_bytes xs) (8 * j)) ∙ lane-part xs j (omega arith)
  where
    places : 8 * suc j ≡ length (bytes_of 8 x) + 8 * j
    places = rw (bytes_of-length 8 x) (omega arith)

-- ---- bytes

abbrev pub bytes : ℕ → List ℕ → ℕ → List ℕ
bytes = stream 136 byte_at

-- n bytes that lie in the block, and what comes after them
inside : (n e : ℕ) (lanes : List ℕ) (at : ℕ) → length lanes ≡ 25 → at + n ≤ 136
    → bytes (n + e) lanes at ≡ take n (drop at (lane_bytes lanes)) ++ bytes e lanes (at + n)
inside zero e lanes at l h = rw (native.Mathlib.Nat.zero-add e, native.Mathlib.Nat.add-zero at)
inside (suc n) e lanes at l h =
    ap (λ (k : ℕ). bytes k lanes at) (native.Mathlib.Nat.suc-add n e)
    ∙ stream_step 136 byte_at (n + e) lanes at lanes at (next-within 136 byte_at lanes at (λ (q : at ≡ 136). omega arith))
    ∙ ap (λ (xs : List ℕ). byte_at lanes at ∷ xs) (inside n e lanes (at + 1) l (omega arith))
    ∙ sym (rw (drop-cons (lane_bytes lanes) at 0 here, lane_bytes-at lanes at, add-one at, native.Mathlib.Nat.add-suc at n, native.Mathlib.Nat.suc-add at n))
  where
    here : at < length (lane_bytes lanes)
    here = rw (lane_bytes-length lanes, l) (omega arith)

-- q further blocks reach to d, and fewer do not
by_blocks : (q d : ℕ) (lanes : List ℕ) → length lanes ≡ 25 → d ≤ 136 * (q + 1) → (0 < q → 136 * q < d) → bytes d lanes 0 ≡ take d (squeeze_blocks q lanes)
unfolding squeeze_blocks stream
by_blocks zero d lanes l h f =
    ap (λ (k : ℕ). bytes k lanes 0) (sym (native.Mathlib.Nat.add-zero d)) ∙ inside d 0 lanes 0 l (omega arith) ∙ mathlib.Core.List.append-nil (take d (lane_bytes lanes))
    ∙ sym (take-take d 136 (lane_bytes lanes) (omega arith))
by_blocks (suc q) d lanes l h f =
    ap (λ (k : ℕ). bytes k lanes 0) (sym whole) ∙ inside 136 (d - 136) lanes 0 l (omega arith)
    ∙ ap (λ (xs : List ℕ). take 136 (lane_bytes lanes) ++ xs) (past 136 byte_at (d - 136) lanes (omega (arith, f (omega arith))) (lit< tt) ∙ by_blocks q (d - 136) (keccak_f lanes) (keccak_f-length lanes) (omega arith) (λ p. omega (arith, f (omega arith))))
    ∙ sym (take-append-add (take 136 (lane_bytes lanes)) (squeeze_blocks q (keccak_f lanes)) (d - 136))
    ∙ ap (λ (k : ℕ). take k (take 136 (lane_bytes lanes) ++ squeeze_blocks q (keccak_f lanes))) reach
  where
    front : 136 ≤ length (lane_bytes lanes)
    front = rw (lane_bytes-length lanes, l) (lit≤ tt)

    whole : 136 + (d - 136) ≡ d
    whole = omega (arith, f (omega arith))

    reach : length (take 136 (lane_bytes lanes)) + (d - 136) ≡ d
    reach = ap (λ (k : ℕ). k + (d - 136)) (length-take-le 136 (lane_bytes lanes) front) ∙ whole

-- the bytes that the loop gives out are the squeezed ones
pub bytes-squeezed : (d : ℕ) (lanes : List ℕ) → length lanes ≡ 25 → bytes d lanes 0 ≡ squeezed d lanes
unfolding squeezed
bytes-squeezed d lanes l =
    by_blocks ((d - 1) / 136) d lanes l (omega (arith, mod-add-div (d - 1) 136, mod-lt (d - 1) {m = 136} (lit< tt))) (λ p. omega (arith, mod-add-div (d - 1) 136, mod-lt (d - 1) {m = 136} (lit< tt)))

pub squeezed-length : (d : ℕ) (lanes : List ℕ) → length lanes ≡ 25 → length (squeezed d lanes) ≡ d
squeezed-length d lanes l = ap length (sym (bytes-squeezed d lanes l)) ∙ stream_length 136 byte_at d lanes 0

-- ---- numbers

-- the bytes of a number, read again
little_endian-bytes_of : (n x : ℕ) → x < 2 ^ (8 * n) → little_endian (bytes_of n x) ≡ x
unfolding little_endian bytes_of
little_endian-bytes_of zero x h = omega arith
little_endian-bytes_of (suc n) x h = ap (λ (y : ℕ). x % 256 + 256 * y) (little_endian-bytes_of n (x / 256) (shr_lt (8 * n) 8 (subst (λ (k : ℕ). x < 2 ^ k) places h))) ∙ mod-add-div x 256
  where
    places : 8 * suc n ≡ 8 * n + 8
    places = omega arith

abbrev pub lanes_out : ℕ → List ℕ → ℕ → List ℕ
lanes_out = stream 17 lane_at

-- eight bytes of the block are its next lane
by-lane : (m : ℕ) (lanes : List ℕ) (j : ℕ) → length lanes ≡ 25 → j < 17 → bytes (8 + m) lanes (8 * j) ≡ bytes_of 8 (get_or lanes j 0) ++ bytes m lanes (8 * (j + 1))
by-lane m lanes j l h =
    inside 8 m lanes (8 * j) l (omega arith) ∙ ap (λ (xs : List ℕ). xs ++ bytes m lanes (8 * j + 8)) (lane-part lanes j (omega arith)) ∙ ap (λ (k : ℕ). bytes_of 8 (get_or lanes j 0) ++ bytes m lanes k) places
  where
    places : 8 * j + 8 ≡ 8 * (j + 1)
    places = omega arith

number_of : (x n : ℕ) (ys : List ℕ) → x < 2 ^ 64 → first_numbers (suc n) (bytes_of 8 x ++ ys) ≡ x ∷ first_numbers n ys
unfolding first_numbers
number_of x n ys h =
    ap (λ (xs : List ℕ). little_endian xs ∷ first_numbers n (drop 8 (bytes_of 8 x ++ ys))) (take_at (bytes_of 8 x) ys 8 (bytes_of-length 8 x))
    ∙ ap (λ (xs : List ℕ). little_endian (bytes_of 8 x) ∷ first_numbers n xs) (drop_at (bytes_of 8 x) ys 8 (bytes_of-length 8 x))
    ∙ ap (λ (y : ℕ). y ∷ first_numbers n ys) (little_endian-bytes_of 8 x h)

-- the numbers of the bytes from lane j on are the lanes from lane j on
abbrev Same : ℕ → Type 0
Same n = (lanes : List ℕ) (j : ℕ) → length lanes ≡ 25 → Fits lanes → j ≤ 17 → first_numbers n (bytes (8 * n) lanes (8 * j)) ≡ lanes_out n lanes j

one_more : (n : ℕ) → Same n → (lanes : List ℕ) (j : ℕ) → length lanes ≡ 25 → Fits lanes → j < 17 → first_numbers (suc n) (bytes (8 * suc n) lanes (8 * j)) ≡ lanes_out (suc n) lanes j
one_more n same lanes j l f h =
    ap (λ (k : ℕ). first_numbers (suc n) (bytes k lanes (8 * j))) places ∙ ap (λ (xs : List ℕ). first_numbers (suc n) xs) (by-lane (8 * n) lanes j l h)
    ∙ number_of (get_or lanes j 0) n (bytes (8 * n) lanes (8 * (j + 1))) (f j (omega arith))
    ∙ ap (λ (xs : List ℕ). get_or lanes j 0 ∷ xs) (same lanes (j + 1) l f (omega arith))
    ∙ sym (stream_step 17 lane_at n lanes j lanes j (next-within 17 lane_at lanes j (λ (q : j ≡ 17). omega arith)))
  where
    places : 8 * suc n ≡ 8 + 8 * n
    places = omega arith

any_place : (n : ℕ) → Same n → (lanes : List ℕ) (j : ℕ) → length lanes ≡ 25 → Fits lanes → j ≤ 17 → Dec (j < 17) → first_numbers (suc n) (bytes (8 * suc n) lanes (8 * j)) ≡ lanes_out (suc n) lanes j
any_place n same lanes j l f h (yes d) = one_more n same lanes j l f d
any_place n same lanes j l f h (no d) =
    let e : j ≡ 17 = omega arith in
    ap (λ (k : ℕ). first_numbers (suc n) (bytes (8 * suc n) lanes (8 * k))) e
    ∙ ap (λ (xs : List ℕ). first_numbers (suc n) xs) (past 136 byte_at (8 * suc n) lanes (omega arith) (lit< tt))
    ∙ one_more n same (keccak_f lanes) 0 (keccak_f-length lanes) (keccak_f-fits lanes f) (lit< tt)
    ∙ sym (past 17 lane_at (suc n) lanes (omega arith) (lit< tt))
    ∙ ap (λ (k : ℕ). lanes_out (suc n) lanes k) (sym e)

by_lanes : (n : ℕ) → Same n
unfolding first_numbers stream
by_lanes zero lanes j l f h = refl
by_lanes (suc n) lanes j l f h = any_place n (by_lanes n) lanes j l f h (dec_lt j 17)

-- the lanes that the loop gives out are the numbers of the squeezed bytes
pub lanes_squeezed : (n : ℕ) (lanes : List ℕ) → length lanes ≡ 25 → Fits lanes → lanes_out n lanes 0 ≡ numbers (squeezed (8 * n) lanes)
unfolding numbers
lanes_squeezed n lanes l f =
    sym (by_lanes n lanes 0 l f (lit≤ tt)) ∙ ap (λ (xs : List ℕ). first_numbers n xs) (bytes-squeezed (8 * n) lanes l)
    ∙ ap (λ (k : ℕ). first_numbers k (squeezed (8 * n) lanes)) (sym (ap (λ (k : ℕ). k / 8) (squeezed-length (8 * n) lanes l) ∙ mul-div_right n {m = 8} (lit< tt)))
