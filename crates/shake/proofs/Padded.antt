-- The padded message as bytes: the message, then 0x1F, zeros and 0x80, or 0x9F where one byte is left in the block. FIPS 202 tells the same in B.2.
-- Assumes nothing.
use mathlib.Core.Path.{◌≡◌, refl, sym, ap, subst, ◌∙◌}
use Prim.Native.Nat.{ℕ, zero, suc, ◌+◌, ◌-◌, ◌*◌, ◌/◌, ◌%◌, ◌^◌, ◌<◌}
use mathlib.Core.List.{List, [], ◌∷◌, ◌++◌, append_assoc}
use native.Mathlib.Nat.{mod-add-div, mul-div_right}
use native.Mathlib.Omega.{arith}
use lib.Dec.{lit<}
use lib.Pow.{shr_lt}
use lib.ListN.{length, drop, replicate, length-append, length-replicate, replicate-append-replicate}
use lib.Seq.{take_at, drop_at}
use Rattle.shake.specs.Padding.{bits_of, message_bits, number, packed, pad10*1, suffix, suffixed, padded_bits, padded_message}
use Rattle.shake.proofs.Bytes.{Bytes, head_byte, tail_bytes, bytes_append, bytes_cons, bytes_none, bytes_zeros}

bits_of-length : (n x : ℕ) → length (bits_of n x) ≡ n
unfolding bits_of
bits_of-length zero x = refl
bits_of-length (suc n) x = ap suc (bits_of-length n (x / 2))

number-bits_of : (n x : ℕ) → x < 2 ^ n → number (bits_of n x) ≡ x
unfolding number bits_of
number-bits_of zero x h = omega arith
number-bits_of (suc n) x h = ap (λ (y : ℕ). x % 2 + 2 * y) (number-bits_of n (x / 2) (shr_lt n 1 (subst (λ (k : ℕ). x < 2 ^ k) places h))) ∙ mod-add-div x 2
  where
    places : suc n ≡ n + 1
    places = omega arith

message_bits-length : (m : List ℕ) → length (message_bits m) ≡ 8 * length m
unfolding message_bits
message_bits-length [] = refl
message_bits-length (b ∷ bs) = length-append (bits_of 8 b) (message_bits bs) ∙ rw (bits_of-length 8 b, message_bits-length bs) (omega arith)

-- eight bits make the next byte
packed-eight : (n : ℕ) (eight rest : List ℕ) → length eight ≡ 8 → packed (suc n) (eight ++ rest) ≡ number eight ∷ packed n rest
unfolding packed
packed-eight n eight rest h =
    ap (λ (xs : List ℕ). number xs ∷ packed n (drop 8 (eight ++ rest))) (take_at eight rest 8 h) ∙ ap (λ (xs : List ℕ). number eight ∷ packed n xs) (drop_at eight rest 8 h)

-- the bits of bytes make these bytes again
packed_message : (m : List ℕ) (n : ℕ) (rest : List ℕ) → Bytes m → packed (length m + n) (message_bits m ++ rest) ≡ m ++ packed n rest
unfolding message_bits
packed_message [] n rest h = ap (λ (k : ℕ). packed k rest) (native.Mathlib.Nat.zero-add n)
packed_message (b ∷ bs) n rest h =
    ap (λ (k : ℕ). packed k ((bits_of 8 b ++ message_bits bs) ++ rest)) (native.Mathlib.Nat.suc-add (length bs) n)
    ∙ ap (λ (xs : List ℕ). packed (suc (length bs + n)) xs) (append_assoc (bits_of 8 b) (message_bits bs) rest)
    ∙ packed-eight (length bs + n) (bits_of 8 b) (message_bits bs ++ rest) (bits_of-length 8 b)
    ∙ ap (λ (x : ℕ). x ∷ packed (length bs + n) (message_bits bs ++ rest)) (number-bits_of 8 b (head_byte b bs h))
    ∙ ap (λ (xs : List ℕ). b ∷ xs) (packed_message bs n rest (tail_bytes b bs h))

-- ---- the end of the message: d bytes, d from 1 to 136

-- the padding's bytes
unfoldable pub tail : ℕ → List ℕ
tail zero = []
tail (suc zero) = 0x9F ∷ []
tail (suc (suc e)) = 0x1F ∷ replicate e 0 ++ (0x80 ∷ [])

-- suffix and padding with j zeros
abbrev ending : ℕ → List ℕ
ending j = suffix ++ (1 ∷ replicate j 0 ++ (1 ∷ []))

packed_zeros : (e : ℕ) (rest : List ℕ) → packed (e + 1) (replicate (8 * e) 0 ++ rest) ≡ replicate e 0 ++ packed 1 rest
unfolding number
packed_zeros zero rest = refl
packed_zeros (suc e) rest =
    ap (λ (k : ℕ). packed k (replicate (8 * suc e) 0 ++ rest)) (native.Mathlib.Nat.suc-add e 1)
    ∙ ap (λ (xs : List ℕ). packed (suc (e + 1)) (xs ++ rest)) (ap (λ (k : ℕ). replicate k 0) places ∙ sym (replicate-append-replicate 8 (8 * e) 0))
    ∙ ap (λ (xs : List ℕ). packed (suc (e + 1)) xs) (append_assoc (replicate 8 0) (replicate (8 * e) 0) rest)
    ∙ packed-eight (e + 1) (replicate 8 0) (replicate (8 * e) 0 ++ rest) refl
    ∙ ap (λ (xs : List ℕ). 0 ∷ xs) (packed_zeros e rest)
  where
    places : 8 * suc e ≡ 8 + 8 * e
    places = omega arith

-- of two bytes and more: 1111 1000, zeros, 0000 0001
abbrev first : List ℕ
first = 1 ∷ 1 ∷ 1 ∷ 1 ∷ 1 ∷ 0 ∷ 0 ∷ 0 ∷ []

abbrev last : List ℕ
last = 0 ∷ 0 ∷ 0 ∷ 0 ∷ 0 ∷ 0 ∷ 0 ∷ 1 ∷ []

ending_bytes : (e : ℕ) → ending (3 + (8 * e + 7)) ≡ first ++ (replicate (8 * e) 0 ++ last)
unfolding suffix
ending_bytes e =
    ap (λ (xs : List ℕ). suffix ++ (1 ∷ xs ++ (1 ∷ [])))
    (sym (replicate-append-replicate 3 (8 * e + 7) 0) ∙ ap (λ (ys : List ℕ). replicate 3 0 ++ ys) (sym (replicate-append-replicate (8 * e) 7 0)))
    ∙ ap (λ (xs : List ℕ). first ++ xs) (append_assoc (replicate (8 * e) 0) (replicate 7 0) (1 ∷ []))

packed_more : (e : ℕ) → packed (suc (e + 1)) (first ++ (replicate (8 * e) 0 ++ last)) ≡ 0x1F ∷ replicate e 0 ++ (0x80 ∷ [])
unfolding packed number
packed_more e = packed-eight (e + 1) first (replicate (8 * e) 0 ++ last) refl ∙ ap (λ (xs : List ℕ). 0x1F ∷ xs) (packed_zeros e last)

packed_ending : (d : ℕ) → 0 < d → packed d (ending (8 * d - 6)) ≡ tail d
unfolding tail suffix packed number
packed_ending zero h = absurd (omega arith)
packed_ending (suc zero) h = refl
packed_ending (suc (suc e)) h =
    ap (λ (k : ℕ). packed (suc (suc e)) (ending k)) places ∙ ap (λ (xs : List ℕ). packed (suc (suc e)) xs) (ending_bytes e)
    ∙ ap (λ (k : ℕ). packed (suc k) (first ++ (replicate (8 * e) 0 ++ last))) (sym (native.Mathlib.Numerals.add-one e)) ∙ packed_more e
  where
    places : 8 * suc (suc e) - 6 ≡ 3 + (8 * e + 7)
    places = omega arith

-- ---- all of it

suffixed-length : (m : List ℕ) → length (suffixed m) ≡ 8 * length m + 4
unfolding suffixed suffix
suffixed-length m = length-append (message_bits m) suffix ∙ ap (λ (k : ℕ). k + 4) (message_bits-length m)

-- how many zeros the padding has: all but six bits of the bytes that are left
zeros : (n : ℕ) → (1088 - (8 * n + 4 + 2) % 1088) % 1088 ≡ 8 * (136 - n % 136) - 6
zeros n = omega arith

padded_bits_is : (m : List ℕ) → padded_bits m ≡ message_bits m ++ ending (8 * (136 - length m % 136) - 6)
unfolding padded_bits pad10*1 suffixed
padded_bits_is m =
    ap (λ (k : ℕ). (message_bits m ++ suffix) ++ (1 ∷ replicate ((1088 - (k + 2) % 1088) % 1088) 0 ++ (1 ∷ []))) (suffixed-length m)
    ∙ ap (λ (k : ℕ). (message_bits m ++ suffix) ++ (1 ∷ replicate k 0 ++ (1 ∷ []))) (zeros (length m))
    ∙ append_assoc (message_bits m) suffix (1 ∷ replicate (8 * (136 - length m % 136) - 6) 0 ++ (1 ∷ []))

ending_length : (j : ℕ) → length (ending j) ≡ j + 6
unfolding suffix
ending_length j = rw (length-append {A = ℕ} (replicate j 0) (1 ∷ []), length-replicate {A = ℕ} j 0) (omega arith)

padded_bits-length : (m : List ℕ) → length (padded_bits m) ≡ 8 * (length m + (136 - length m % 136))
padded_bits-length m =
    ap length (padded_bits_is m) ∙ length-append (message_bits m) (ending (8 * (136 - length m % 136) - 6))
    ∙ rw (message_bits-length m, ending_length (8 * (136 - length m % 136) - 6)) (omega arith)

-- the padded message, as bytes
pub padded_is : (m : List ℕ) → Bytes m → padded_message m ≡ m ++ tail (136 - length m % 136)
unfolding padded_message
padded_is m h =
    ap (λ (k : ℕ). packed k (padded_bits m)) (ap (λ (k : ℕ). k / 8) (padded_bits-length m) ∙ mul-div_right (length m + (136 - length m % 136)) {m = 8} (lit< tt))
    ∙ ap (λ (xs : List ℕ). packed (length m + (136 - length m % 136)) xs) (padded_bits_is m)
    ∙ packed_message m (136 - length m % 136) (ending (8 * (136 - length m % 136) - 6)) h
    ∙ ap (λ (xs : List ℕ). m ++ xs) (packed_ending (136 - length m % 136) (omega arith))

pub tail_length : (d : ℕ) → length (tail d) ≡ d
unfolding tail
tail_length zero = refl
tail_length (suc zero) = refl
tail_length (suc (suc e)) = ap suc (length-append (replicate e 0) (0x80 ∷ []) ∙ rw (length-replicate {A = ℕ} e 0) (native.Mathlib.Numerals.add-one e))

pub bytes_tail : (d : ℕ) → Bytes (tail d)
unfolding tail
bytes_tail zero = bytes_none
bytes_tail (suc zero) = bytes_cons 0x9F [] (lit< tt) bytes_none
bytes_tail (suc (suc e)) = bytes_cons 0x1F (replicate e 0 ++ (0x80 ∷ [])) (lit< tt) (bytes_append (replicate e 0) (0x80 ∷ []) (bytes_zeros e) (bytes_cons 0x80 [] (lit< tt) bytes_none))
