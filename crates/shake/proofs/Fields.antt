-- The streaming sponge: fields one after another are their concatenation, and the place stays in the block.
-- Assumes nothing.
use mathlib.Core.Path.{◌≡◌, refl, sym, ap, subst, ◌∙◌}
use mathlib.Core.Bool.{Bool, true, false}
use Prim.Native.Nat.{ℕ, ◌+◌, ◌*◌, ◌/◌, ◌%◌, ◌^◌, ◌<◌, ◌≤◌}
use mathlib.Core.List.{List, [], ◌∷◌, ◌++◌}
use native.Mathlib.Omega.{arith}
use native.Mathlib.Nat.{mod-lt}
use lib.Bits.{bit_xor}
use lib.Dec.{eqb, lit<}
use native.Mathlib.Numerals.{add-one}
use lib.ListN.{length, get_or, drop, set, length-set, drop_of_length-le}
use lib.Seq.{drop-cons}
use borrow.Author.Tests.{eqb-false, eq-eqb, ne_eqb}
use Rattle.keccak.specs.Keccak.{keccak_f}
use Rattle.keccak.proofs.Fits.{keccak_f-length}
use Rattle.shake.specs.Stream.{Soaked, mixed, settled, turned, with_byte, with_field}
use Rattle.shake.proofs.Bytes.{byte_shift}

-- taking in fields one after another is taking in their concatenation
pub fields : (s : Soaked) (xs ys : List ℕ) → with_field (with_field s xs) ys ≡ with_field s (xs ++ ys)
unfolding with_field
fields s [] ys = refl
fields s (x ∷ xs) ys = fields (with_byte s x) xs ys

-- a sponge whose place lies in the block, with the state's 25 lanes
pub record Ready (s : Soaked) : Type 0 where
  pub place : s.at < 136
  pub lanes25 : length s.lanes ≡ 25

settled-ready : (t : Bool) (lanes : List ℕ) (at : ℕ) → at ≤ 136 → length lanes ≡ 25 → eqb at 136 ≡ t → Ready (settled t lanes at)
unfolding settled
settled-ready true lanes at h l e = record { place = lit< tt; lanes25 = keccak_f-length lanes }
settled-ready false lanes at h l e = record { place = within (eqb-false at 136 e); lanes25 = l }
  where
    within : (at ≡ 136 → ⊥) → at < 136
    within n = omega arith

pub byte-ready : (s : Soaked) (b : ℕ) → Ready s → Ready (with_byte s b)
unfolding with_byte turned mixed
byte-ready s b r = settled-ready (eqb (s.at + 1) 136) _ (s.at + 1) (omega arith) (simp length-set r.lanes25) refl

pub field-ready : (s : Soaked) (bs : List ℕ) → Ready s → Ready (with_field s bs)
unfolding with_field
field-ready s [] r = r
field-ready s (b ∷ bs) r = field-ready (with_byte s b) bs (byte-ready s b r)

-- a turn of the loop that takes a field in
pub turn : (lanes : List ℕ) (at : ℕ) (field : List ℕ) (i : ℕ) → i < length field
    → with_field (record { lanes = lanes; at = at }) (drop i field) ≡ with_field (turned (mixed lanes at (get_or field i 0)) (at + 1)) (drop (i + 1) field)
unfolding with_field with_byte
turn lanes at field i h = rw (add-one i, drop-cons field i 0 h)

pub turned_full : (lanes : List ℕ) (at : ℕ) → at ≡ 136 → turned lanes at ≡ record { lanes = keccak_f lanes; at = 0 }
unfolding turned settled
turned_full lanes at e = rw (eq-eqb at 136 e)

pub turned-within : (lanes : List ℕ) (at : ℕ) → (at ≡ 136 → ⊥) → turned lanes at ≡ record { lanes = lanes; at = at }
unfolding turned settled
turned-within lanes at n = rw (ne_eqb at 136 n)

-- what the code writes is the byte mixed in: the shift loses no bits
pub written : (lanes : List ℕ) (at b w : ℕ) → w ≡ b → b < 256
    → set lanes (at / 8) (bit_xor (get_or lanes (at / 8) 0) (w * 2 ^ (8 * (at % 8)) % 2 ^ 64)) ≡ mixed lanes at b
unfolding mixed
written lanes at b w e h = rw (e, byte_shift b (at % 8) h (mod-lt at (lit< tt)))

-- the same for what ends a message: 0x80 in byte 135 is the top bit of lane 16
pub padded_lanes : (lanes : List ℕ) (at : ℕ) (m : List ℕ) → m ≡ set lanes (at / 8) (bit_xor (get_or lanes (at / 8) 0) (0x1F * 2 ^ (8 * (at % 8)) % 2 ^ 64))
    → set m 16 (bit_xor (get_or m 16 0) 0x8000000000000000) ≡ mixed (mixed lanes at 0x1F) 135 0x80
unfolding mixed
padded_lanes lanes at m e = rw (e, byte_shift 0x1F (at % 8) (lit< tt) (mod-lt at (lit< tt)))

-- the two ways through a turn: the block is full, or it is not
module _ (lanes : List ℕ) (at b w : ℕ) (lanes' : List ℕ) (at' : ℕ) (e : w ≡ b) (h : b < 256) where
  pub full : (r : List ℕ) → at + 1 ≡ 136 → r ≡ keccak_f (set lanes (at / 8) (bit_xor (get_or lanes (at / 8) 0) (w * 2 ^ (8 * (at % 8)) % 2 ^ 64)))
      → lanes' ≡ r → at' ≡ 0 → turned (mixed lanes at b) (at + 1) ≡ record { lanes = lanes'; at = at' }
  full r t k l a = turned_full (mixed lanes at b) (at + 1) t ∙ rw (l, a, k, written lanes at b w e h)

  pub within : (at + 1 ≡ 136 → ⊥) → lanes' ≡ set lanes (at / 8) (bit_xor (get_or lanes (at / 8) 0) (w * 2 ^ (8 * (at % 8)) % 2 ^ 64))
      → at' ≡ at + 1 → turned (mixed lanes at b) (at + 1) ≡ record { lanes = lanes'; at = at' }
  within t l a = turned-within (mixed lanes at b) (at + 1) t ∙ rw (l, a, written lanes at b w e h)

-- nothing is left of the field
pub ended : (s t : Soaked) (field : List ℕ) (i : ℕ) → length field ≤ i → with_field s (drop i field) ≡ t → s ≡ t
unfolding with_field
ended s t field i h e = rw (drop_of_length-le field h) at e

-- the loop's invariant after a turn, from what the turn made of the sponge
pub again : (lanes : List ℕ) (at : ℕ) (lanes' : List ℕ) (at' : ℕ) (field : List ℕ) (i : ℕ) (s : Soaked)
    → i < length field → at < 136 → length lanes ≡ 25 → with_field (record { lanes = lanes; at = at }) (drop i field) ≡ with_field s field
    → turned (mixed lanes at (get_or field i 0)) (at + 1) ≡ record { lanes = lanes'; at = at' }
    → (at' < 136) × (length lanes' ≡ 25) × (with_field (record { lanes = lanes'; at = at' }) (drop (i + 1) field) ≡ with_field s field)
unfolding with_byte
again lanes at lanes' at' field i s h p l e t =
    let r : Ready (record { lanes = lanes'; at = at' }) = subst Ready t (byte-ready (record { lanes = lanes; at = at }) (get_or field i 0) (record { place = p; lanes25 = l })) in
    (r.place, r.lanes25, ap (λ (x : Soaked). with_field x (drop (i + 1) field)) (sym t) ∙ sym (turn lanes at field i h) ∙ e)
