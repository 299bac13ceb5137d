-- The streaming sponge comes to the definition: bytes taken in one by one, then the end of the message, give the state that the blocks of the
-- padded message give.
-- Assumes nothing.
use mathlib.Core.Path.{◌≡◌, refl, sym, ap, subst, ◌∙◌}
use Prim.Native.Nat.{ℕ, zero, suc, ◌+◌, ◌-◌, ◌*◌, ◌/◌, ◌%◌, ◌^◌, ◌<◌, ◌≤◌}
use mathlib.Core.List.{List, [], ◌∷◌, ◌++◌, append_assoc}
use native.Mathlib.Numerals.{add-one}
use native.Mathlib.Nat.{add-zero, add_assoc, mul-one}
use native.Mathlib.Omega.{arith}
use lib.Bits.{bit_xor, xor_zero_r}
use mathlib.Core.Bool.{Bool, true, false}
use borrow.Author.Tests.{eqb-true, eqb-false}
use lib.Dec.{eqb, lit<}
use lib.Pow.{shl_lt, pow-add}
use lib.ListN.{length, get_or, take, drop, set, replicate, length-append, length-drop, length-set, take-append-drop}
use lib.Seq.{take-suc-set, drop-set-lt, drop-cons, set-set, get_or-set_same, set-get_or, append_snoc, length-take-le}
use Rattle.keccak.specs.Keccak.{keccak_f}
use Rattle.keccak.proofs.Fits.{keccak_f-length}
use Rattle.shake.specs.Numbers.{little_endian, first_numbers, numbers}
use Rattle.shake.specs.Padding.{padded_message}
use Rattle.shake.specs.Shake.{xored, absorb_block, absorb_blocks, zero_state, absorbed}
use Rattle.shake.specs.Stream.{Soaked, mixed, settled, turned, with_byte, with_field, empty, closed}
use Rattle.shake.proofs.Xor.{xor_sum}
use Rattle.shake.proofs.Bytes.{Bytes, head_byte, tail_bytes, bytes_take, bytes_drop, bytes_append}
use Rattle.shake.proofs.Fields.{fields, turned_full, turned-within, Ready, field-ready}
use Rattle.shake.proofs.Padded.{tail, tail_length, bytes_tail, padded_is}

abbrev sponge : List ℕ → ℕ → Soaked
sponge lanes at = record { lanes = lanes; at = at }

-- ---- eight bytes are a number that goes into a lane

-- lane j with the number x of bits XORed in
abbrev into : List ℕ → ℕ → ℕ → List ℕ
into lanes j x = set lanes j (bit_xor (get_or lanes j 0) x)

mixed-at : (lanes : List ℕ) (j k b : ℕ) → k < 8 → mixed lanes (8 * j + k) b ≡ into lanes j (b * 2 ^ (8 * k))
unfolding mixed
mixed-at lanes j k b h = let d : (8 * j + k) / 8 ≡ j = omega arith in let m : (8 * j + k) % 8 ≡ k = omega arith in rw (d, m)

-- two numbers into one lane, the second one above the first
into_into : (lanes : List ℕ) (j k b high : ℕ) → j < length lanes → b < 256
    → into (into lanes j (b * 2 ^ (8 * k))) j (high * 2 ^ (8 * (k + 1))) ≡ into lanes j ((b + 256 * high) * 2 ^ (8 * k))
into_into lanes j k b high h hb =
    set-set lanes j (bit_xor (get_or lanes j 0) (b * 2 ^ (8 * k))) (bit_xor (get_or (into lanes j (b * 2 ^ (8 * k))) j 0) (high * 2 ^ (8 * (k + 1))))
    ∙ ap (λ (x : ℕ). set lanes j (bit_xor x (high * 2 ^ (8 * (k + 1))))) (get_or-set_same lanes j (bit_xor (get_or lanes j 0) (b * 2 ^ (8 * k))) 0 h)
    ∙ ap (λ (x : ℕ). set lanes j x) (xor_sum (get_or lanes j 0) (8 * (k + 1)) (b * 2 ^ (8 * k)) high low)
    ∙ ap (λ (x : ℕ). set lanes j (bit_xor (get_or lanes j 0) x)) (rw widened (sums b high (2 ^ (8 * k))))
  where
    places : 8 * (k + 1) ≡ 8 + 8 * k
    places = omega arith

    low : b * 2 ^ (8 * k) < 2 ^ (8 * (k + 1))
    low = rw places (shl_lt 8 (8 * k) hb)

    widened : 2 ^ (8 * (k + 1)) ≡ 256 * 2 ^ (8 * k)
    widened = rw places (pow-add 2 8 (8 * k))

    sums : (b h p : ℕ) → b * p + h * (256 * p) ≡ (b + 256 * h) * p
    sums b h p = omega arith

word_in : (bs : List ℕ) (lanes : List ℕ) (j k : ℕ) (rest : List ℕ) → k + length bs ≡ 8 → 0 < length bs → Bytes bs → j < 17 → length lanes ≡ 25
    → with_field (sponge lanes (8 * j + k)) (bs ++ rest) ≡ with_field (turned (into lanes j (little_endian bs * 2 ^ (8 * k))) (8 * j + 8)) rest
unfolding with_field with_byte little_endian
word_in [] lanes j k rest n p h hj l = absurd (omega arith)
word_in (b ∷ []) lanes j k rest n p h hj l =
    ap (λ (xs : List ℕ). with_field (turned xs (8 * j + k + 1)) rest) (mixed-at lanes j k b (omega arith))
    ∙ ap (λ (a : ℕ). with_field (turned (into lanes j (b * 2 ^ (8 * k))) a) rest) ends
    ∙ ap (λ (x : ℕ). with_field (turned (into lanes j (x * 2 ^ (8 * k))) (8 * j + 8)) rest) (sym (add-zero b))
  where
    ends : 8 * j + k + 1 ≡ 8 * j + 8
    ends = omega arith
word_in (b ∷ b' ∷ bs) lanes j k rest n p h hj l =
    ap (λ (xs : List ℕ). with_field (turned xs (8 * j + k + 1)) (b' ∷ bs ++ rest)) (mixed-at lanes j k b (omega arith))
    ∙ ap (λ (s : Soaked). with_field s (b' ∷ bs ++ rest)) (turned-within (into lanes j (b * 2 ^ (8 * k))) (8 * j + k + 1) (λ e. omega arith) ∙ ap (λ (a : ℕ). sponge (into lanes j (b * 2 ^ (8 * k))) a) (add_assoc (8 * j) k 1))
    ∙ word_in (b' ∷ bs) (into lanes j (b * 2 ^ (8 * k))) j (k + 1) rest (omega arith) (omega arith) (tail_bytes b (b' ∷ bs) h) hj (length-set lanes j (bit_xor (get_or lanes j 0) (b * 2 ^ (8 * k))) ∙ l)
    ∙ ap (λ (xs : List ℕ). with_field (turned xs (8 * j + 8)) rest) (into_into lanes j k b (little_endian (b' ∷ bs)) (omega arith) (head_byte b (b' ∷ bs) h))

-- ---- the numbers of a block go into its lanes

-- lanes from j on are XORed with numbers
abbrev from : ℕ → List ℕ → List ℕ → List ℕ
from j lanes ns = take j lanes ++ xored (drop j lanes) ns

from_none : (j : ℕ) (lanes : List ℕ) → from j lanes [] ≡ lanes
unfolding xored
from_none j lanes = ap (λ (xs : List ℕ). take j lanes ++ xs) (none (drop j lanes)) ∙ take-append-drop j lanes
  where
    none : (xs : List ℕ) → xored xs [] ≡ xs
    none [] = refl
    none (x ∷ xs) = refl

from_one : (j : ℕ) (lanes : List ℕ) (n : ℕ) (ns : List ℕ) → j < length lanes → from (j + 1) (into lanes j n) ns ≡ from j lanes (n ∷ ns)
unfolding xored
from_one j lanes n ns h =
    rw (add-one j, take-suc-set lanes j (bit_xor (get_or lanes j 0) n) h, drop-set-lt (suc j) lanes j (bit_xor (get_or lanes j 0) n) (omega arith), drop-cons lanes j 0 h)
    (append_snoc (take j lanes) (bit_xor (get_or lanes j 0) n) (xored (drop (suc j) lanes) ns))

nothing_left : (bs : List ℕ) → length bs ≡ 0 → bs ≡ []
nothing_left [] h = refl
nothing_left (b ∷ bs) h = absurd (omega arith)

-- n numbers, from lane j to the block's end
words-in : (n : ℕ) (bs : List ℕ) (lanes : List ℕ) (j : ℕ) (rest : List ℕ) → n + j ≡ 17 → length bs ≡ 8 * n → Bytes bs → length lanes ≡ 25
    → with_field (turned lanes (8 * j)) (bs ++ rest) ≡ with_field (turned (from j lanes (first_numbers n bs)) 136) rest
unfolding first_numbers
words-in zero bs lanes j rest n s h l =
    ap (λ (xs : List ℕ). with_field (turned lanes (8 * j)) (xs ++ rest)) (nothing_left bs (omega arith))
    ∙ ap (λ (a : ℕ). with_field (turned lanes a) rest) ends ∙ ap (λ (xs : List ℕ). with_field (turned xs 136) rest) (sym (from_none j lanes))
  where
    ends : 8 * j ≡ 136
    ends = omega arith
words-in (suc n) bs lanes j rest e s h l =
    ap (λ (x : Soaked). with_field x (bs ++ rest)) (turned-within lanes (8 * j) (λ q. omega arith) ∙ ap (λ (a : ℕ). sponge lanes a) (sym (add-zero (8 * j))))
    ∙ ap (λ (xs : List ℕ). with_field (sponge lanes (8 * j + 0)) xs) (ap (λ (xs : List ℕ). xs ++ rest) (sym (take-append-drop 8 bs)) ∙ append_assoc (take 8 bs) (drop 8 bs) rest)
    ∙ word_in (take 8 bs) lanes j 0 (drop 8 bs ++ rest) (rw eight refl) (rw eight (lit< tt)) (bytes_take 8 bs h) (omega arith) l
    ∙ ap (λ (x : ℕ). with_field (turned (into lanes j x) (8 * j + 8)) (drop 8 bs ++ rest)) (mul-one (little_endian (take 8 bs)))
    ∙ ap (λ (a : ℕ). with_field (turned (into lanes j (little_endian (take 8 bs))) a) (drop 8 bs ++ rest)) next
    ∙ words-in n (drop 8 bs) (into lanes j (little_endian (take 8 bs))) (j + 1) rest (omega arith) (length-drop 8 bs ∙ less) (bytes_drop 8 bs h) (length-set lanes j (bit_xor (get_or lanes j 0) (little_endian (take 8 bs))) ∙ l)
    ∙ ap (λ (xs : List ℕ). with_field (turned xs 136) rest) (from_one j lanes (little_endian (take 8 bs)) (first_numbers n (drop 8 bs)) (omega arith))
  where
    eight : length (take 8 bs) ≡ 8
    eight = length-take-le 8 bs (omega arith)

    next : 8 * j + 8 ≡ 8 * (j + 1)
    next = omega arith

    less : length bs - 8 ≡ 8 * n
    less = omega arith

-- ---- blocks

block_in : (bs : List ℕ) (lanes : List ℕ) (rest : List ℕ) → length bs ≡ 136 → Bytes bs → length lanes ≡ 25
    → with_field (sponge lanes 0) (bs ++ rest) ≡ with_field (sponge (absorb_block lanes bs) 0) rest
unfolding absorb_block numbers
block_in bs lanes rest n h l =
    ap (λ (x : Soaked). with_field x (bs ++ rest)) (sym (turned-within lanes 0 (λ (q : ◌≡◌ {A = ℕ} 0 136). omega arith)))
    ∙ words-in 17 bs lanes 0 rest refl n h l
    ∙ ap (λ (x : Soaked). with_field x rest) (turned_full (xored lanes (first_numbers 17 bs)) 136 refl)
    ∙ ap (λ (k : ℕ). with_field (sponge (keccak_f (xored lanes (first_numbers (k / 8) bs))) 0) rest) (sym n)

pub absorb_block-length : (state block : List ℕ) → length (absorb_block state block) ≡ 25
unfolding absorb_block
absorb_block-length state block = keccak_f-length (xored state (numbers block))

blocks_in : (q : ℕ) (bs : List ℕ) (lanes : List ℕ) → length bs ≡ 136 * q → Bytes bs → length lanes ≡ 25
    → with_field (sponge lanes 0) bs ≡ sponge (absorb_blocks q lanes bs) 0
unfolding absorb_blocks with_field
blocks_in zero bs lanes n h l = ap (λ (xs : List ℕ). with_field (sponge lanes 0) xs) (nothing_left bs (omega arith))
blocks_in (suc q) bs lanes n h l =
    ap (λ (xs : List ℕ). with_field (sponge lanes 0) xs) (sym (take-append-drop 136 bs))
    ∙ block_in (take 136 bs) lanes (drop 136 bs) (length-take-le 136 bs (omega arith)) (bytes_take 136 bs h) l
    ∙ blocks_in q (drop 136 bs) (absorb_block lanes (take 136 bs)) (length-drop 136 bs ∙ less) (bytes_drop 136 bs h) (absorb_block-length lanes (take 136 bs))
  where
    less : length bs - 136 ≡ 136 * q
    less = omega arith

-- ---- the end of the message

-- a zero changes no lane
zero_in : (lanes : List ℕ) (at : ℕ) → mixed lanes at 0 ≡ lanes
unfolding mixed
zero_in lanes at =
    ap (λ (x : ℕ). set lanes (at / 8) (bit_xor (get_or lanes (at / 8) 0) x)) (native.Mathlib.Nat.zero-mul (2 ^ (8 * (at % 8))))
    ∙ ap (λ (x : ℕ). set lanes (at / 8) x) (xor_zero_r (get_or lanes (at / 8) 0)) ∙ set-get_or lanes (at / 8) 0

zeros_in : (e : ℕ) (lanes : List ℕ) (at : ℕ) (rest : List ℕ) → at + e < 136 → with_field (sponge lanes at) (replicate e 0 ++ rest) ≡ with_field (sponge lanes (at + e)) rest
unfolding with_field with_byte
zeros_in zero lanes at rest h = ap (λ (a : ℕ). with_field (sponge lanes a) rest) (sym (add-zero at))
zeros_in (suc e) lanes at rest h =
    ap (λ (xs : List ℕ). with_field (turned xs (at + 1)) (replicate e 0 ++ rest)) (zero_in lanes at)
    ∙ ap (λ (s : Soaked). with_field s (replicate e 0 ++ rest)) (turned-within lanes (at + 1) (λ q. omega arith))
    ∙ zeros_in e lanes (at + 1) rest (omega arith) ∙ ap (λ (a : ℕ). with_field (sponge lanes a) rest) places
  where
    places : at + 1 + e ≡ at + suc e
    places = omega arith

-- where one byte is left, 0x1F and 0x80 go into the same byte
one_left : (lanes : List ℕ) → length lanes ≡ 25 → mixed lanes 135 0x9F ≡ mixed (mixed lanes 135 0x1F) 135 0x80
unfolding mixed
one_left lanes l =
    sym (set-set lanes 16 (bit_xor (get_or lanes 16 0) (0x1F * 2 ^ 56)) (bit_xor (get_or (into lanes 16 (0x1F * 2 ^ 56)) 16 0) (1 * 2 ^ 63))
    ∙ ap (λ (x : ℕ). set lanes 16 (bit_xor x (1 * 2 ^ 63))) (get_or-set_same lanes 16 (bit_xor (get_or lanes 16 0) (0x1F * 2 ^ 56)) 0 (omega arith))
    ∙ ap (λ (x : ℕ). set lanes 16 x) (xor_sum (get_or lanes 16 0) 63 (0x1F * 2 ^ 56) 1 (lit< tt)))

tail_in : (d : ℕ) (lanes : List ℕ) (at : ℕ) → length lanes ≡ 25 → at + d ≡ 136 → 0 < d → with_field (sponge lanes at) (tail d) ≡ sponge (closed (sponge lanes at)) 0
unfolding tail with_field with_byte closed
tail_in zero lanes at l e h = absurd (omega arith)
tail_in (suc zero) lanes at l e h =
    let p : at ≡ 135 = omega arith in
    rw p (ap (λ (xs : List ℕ). turned xs 136) (one_left lanes l) ∙ turned_full (mixed (mixed lanes 135 0x1F) 135 0x80) 136 refl)
tail_in (suc (suc n)) lanes at l e h =
    ap (λ (s : Soaked). with_field s (replicate n 0 ++ (0x80 ∷ []))) (turned-within (mixed lanes at 0x1F) (at + 1) (λ q. omega arith))
    ∙ zeros_in n (mixed lanes at 0x1F) (at + 1) (0x80 ∷ []) (omega arith)
    ∙ ap (λ (a : ℕ). with_field (sponge (mixed lanes at 0x1F) a) (0x80 ∷ [])) places
    ∙ turned_full (mixed (mixed lanes at 0x1F) 135 0x80) 136 refl
  where
    places : at + 1 + n ≡ 135
    places = omega arith

-- ---- the place in the block is what the bytes so far leave of whole blocks

settled-place : (t : Bool) (lanes : List ℕ) (at : ℕ) → eqb at 136 ≡ t → at ≤ 136 → (settled t lanes at).at ≡ at % 136
unfolding settled
settled-place true lanes at e h = let p : at ≡ 136 = eqb-true at 136 e in omega arith
settled-place false lanes at e h = go (eqb-false at 136 e)
  where
    go : (at ≡ 136 → ⊥) → at ≡ at % 136
    go n = omega arith

byte-place : (s : Soaked) (b : ℕ) → s.at < 136 → (with_byte s b).at ≡ (s.at + 1) % 136
unfolding with_byte turned
byte-place s b h = settled-place (eqb (s.at + 1) 136) (mixed s.lanes s.at b) (s.at + 1) refl (omega arith)

pub field-place : (s : Soaked) (bs : List ℕ) → s.at < 136 → (with_field s bs).at ≡ (s.at + length bs) % 136
unfolding with_field
field-place s [] h = omega arith
field-place s (b ∷ bs) h =
    let p : (with_byte s b).at ≡ (s.at + 1) % 136 = byte-place s b h in
    field-place (with_byte s b) bs (omega arith) ∙ rw p (places s.at (length bs))
  where
    places : (a n : ℕ) → ((a + 1) % 136 + n) % 136 ≡ (a + suc n) % 136
    places a n = omega arith

-- ---- the message

pub empty-ready : Ready empty
unfolding empty zero_state
empty-ready = record { place = lit< tt; lanes25 = refl }

-- the state that the streaming sponge ends in is the definition's
pub streamed : (m : List ℕ) → Bytes m → closed (with_field empty m) ≡ absorbed m
unfolding absorbed empty zero_state
streamed m h =
    let r : Ready (with_field empty m) = field-ready empty m empty-ready in
    ap (λ (s : Soaked). s.lanes)
    (sym (tail_in (136 - length m % 136) (with_field empty m).lanes (with_field empty m).at r.lanes25 (rw (field-place empty m (lit< tt)) (places (length m))) (omega arith))
    ∙ fields empty m (tail (136 - length m % 136))
    ∙ ap (λ (xs : List ℕ). with_field empty xs) (sym (padded_is m h))
    ∙ blocks_in (length (padded_message m) / 136) (padded_message m) zero_state whole bytes refl)
  where
    places : (n : ℕ) → (0 + n) % 136 + (136 - n % 136) ≡ 136
    places n = omega arith

    long : length (padded_message m) ≡ length m + (136 - length m % 136)
    long = ap length (padded_is m h) ∙ length-append m (tail (136 - length m % 136)) ∙ ap (λ (k : ℕ). length m + k) (tail_length (136 - length m % 136))

    whole : length (padded_message m) ≡ 136 * (length (padded_message m) / 136)
    whole = omega (arith, long)

    bytes : Bytes (padded_message m)
    bytes = subst Bytes (sym (padded_is m h)) (bytes_append m (tail (136 - length m % 136)) h (bytes_tail (136 - length m % 136)))
