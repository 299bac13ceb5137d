-- Laws of a wire's keys: component 0 of the key for a value is value plus mask, so that the key for an external value is that of its value, and back.
-- Assumes nothing.
use mathlib.Core.Path.{◌≡◌, sym, ap, ◌∙◌}
use mathlib.Core.List.{List}
use Prim.Native.Nat.{ℕ, ◌+◌, ◌<◌}
use native.Mathlib.Omega.{arith}
use lib.ListN.{length, get_or}
use Rattle.residue.specs.Residue.{add, sub, mul}
use Rattle.residue.specs.Vector.{key_v, AllBelow}
use Rattle.residue.proofs.Ring.{ring}
use Rattle.residue.proofs.Ring.Expr.{var, ◌⊕◌, ◌⊖◌, ◌⊗◌}
use Rattle.residue.proofs.VectorRing.{vring}
use Rattle.residue.proofs.VectorRing.VExpr.{vec, ◌⊞◌, ◌⊡◌}
use Rattle.residue.proofs.Laws.{sub-add}
use Rattle.residue.proofs.Vectors.{sub-below, key_v-length, key_v-at, key_v-below}
use Rattle.pair.specs.Key.{Keys, external_of, key_of, mask_of, value_for, key_for}

-- a wire's modulus is above 0, and its zero key and offset have K entries
pub record KeySizes (K : ℕ) (wire : Keys) : Type 0 where
  pub positive : 0 < wire.modulus
  pub zero : length wire.zero ≡ K
  pub offset : length wire.offset ≡ K

-- component 0 of a key with an offset whose component 0 is 1
pub external-key : (p : ℕ) → 0 < p → (k : List ℕ) (v : ℕ) (D : List ℕ) → length k ≡ length D → 0 < length k → external_of D ≡ 1
    → external_of (key_v p k v D) ≡ add p v (external_of k)
unfolding external_of
external-key p positive k v D same some unit =
    key_v-at p k v D same 0 some
    ∙ ap (λ (d : ℕ). add p (get_or k 0 0) (mul p v d)) unit
    ∙ ring positive (var (get_or k 0 0) ⊕ var v ⊗ var 1) (var v ⊕ var (get_or k 0 0)) tt tt (omega arith)

-- component 0 of a vector of residues is a residue
pub external-below : (p : ℕ) (k : List ℕ) → AllBelow p k → 0 < length k → external_of k < p
unfolding external_of
external-below p k below some = below.entry 0 some

-- ---- the value for an external value

module _ (wire : Keys) (positive : 0 < wire.modulus) where
  pub value-for : (v : ℕ) → v < wire.modulus → value_for wire (add wire.modulus v (mask_of wire)) ≡ v
  unfolding value_for
  value-for v h = sub-add positive h (mask_of wire)

  pub value-below : (e : ℕ) → value_for wire e < wire.modulus
  unfolding value_for
  value-below e = sub-below positive e _

  -- the key for the external value of v is that for v
  pub key-for : (v : ℕ) → v < wire.modulus → key_for wire (add wire.modulus v (mask_of wire)) ≡ key_of wire v
  unfolding key_for
  key-for v h = ap (key_of wire) (value-for v h)

-- ---- the key for an external value

module _ {K : ℕ} {wire : Keys} (sizes : KeySizes K wire) where
  same : length wire.zero ≡ length wire.offset
  same = sizes.zero ∙ sym sizes.offset

  pub key_of-size : (v : ℕ) → length (key_of wire v) ≡ K
  key_of-size v = key_v-length wire.modulus wire.zero v wire.offset same ∙ sizes.zero

  pub key_for-size : (e : ℕ) → length (key_for wire e) ≡ K
  unfolding key_for
  key_for-size e = key_of-size (value_for wire e)

  pub key_for-below : (e : ℕ) → AllBelow wire.modulus (key_for wire e)
  unfolding key_for
  key_for-below e = key_v-below sizes.positive wire.zero (value_for wire e) wire.offset

  -- so many offsets more are the key for an external value as much greater
  pub key_for-more : (e d : ℕ) → key_v wire.modulus (key_for wire e) d wire.offset ≡ key_for wire (e + d)
  unfolding key_for value_for key_v
  key_for-more e d =
      vring sizes.positive K
      (vec wire.zero ⊞ (var e ⊖ var (mask_of wire)) ⊡ vec wire.offset ⊞ var d ⊡ vec wire.offset)
      (vec wire.zero ⊞ (var (e + d) ⊖ var (mask_of wire)) ⊡ vec wire.offset)
      ((sizes.zero, sizes.offset), sizes.offset) (sizes.zero, sizes.offset) tt tt (λ i. omega arith)

  -- from the key for external value 0
  pub key_for_from_zero : (e : ℕ) → key_v wire.modulus (key_for wire 0) e wire.offset ≡ key_for wire e
  unfolding key_for value_for key_v
  key_for_from_zero e =
      vring sizes.positive K
      (vec wire.zero ⊞ (var 0 ⊖ var (mask_of wire)) ⊡ vec wire.offset ⊞ var e ⊡ vec wire.offset)
      (vec wire.zero ⊞ (var e ⊖ var (mask_of wire)) ⊡ vec wire.offset)
      ((sizes.zero, sizes.offset), sizes.offset) (sizes.zero, sizes.offset) tt tt (λ i. omega arith)

  module _ (some : 0 < K) (unit : external_of wire.offset ≡ 1) where
    pub key_of-external : (v : ℕ) → external_of (key_of wire v) ≡ add wire.modulus v (mask_of wire)
    key_of-external v = external-key wire.modulus sizes.positive wire.zero v wire.offset same (omega (arith, sizes.zero)) unit

    pub key_for-external : (e : ℕ) → e < wire.modulus → external_of (key_for wire e) ≡ e
    unfolding key_for value_for
    key_for-external e h =
        key_of-external (sub wire.modulus e (mask_of wire))
        ∙ ring sizes.positive (var e ⊖ var (mask_of wire) ⊕ var (mask_of wire)) (var e) tt h (omega arith)
