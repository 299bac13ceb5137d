-- The identities that the gates rest on, for any modulus p above 0 and vectors of one length n: what the messages of a gate add up
-- to, the pads taken off, is the key of the external value. The second part of a split key or mask is the whole minus the first.
-- Assumes nothing.
use mathlib.Core.Path.{◌≡◌}
use mathlib.Core.List.{List}
use Prim.Native.Nat.{ℕ, ◌<◌}
use native.Mathlib.Omega.{arith}
use lib.ListN.{length}
use Rattle.residue.specs.Residue.{add, sub, mul}
use Rattle.residue.specs.Vector.{add_v, sub_v, mul_v, key_v}
use Rattle.residue.proofs.Ring.Expr.{var, ◌⊕◌, ◌⊖◌, ◌⊗◌}
use Rattle.residue.proofs.VectorRing.{vring}
use Rattle.residue.proofs.VectorRing.VExpr.{vec, ◌⊞◌, ◌⊟◌, ◌⊡◌}

module _ (p n : ℕ) (positive : 0 < p) (k k' D : List ℕ) (whole : length k ≡ n) (first : length k' ≡ n) (offset : length D ≡ n) where
  -- a sum's key, and a multiple's
  pub sum_key : (x y : ℕ) → add_v p (key_v p k x D) (key_v p k' y D) ≡ key_v p (add_v p k k') (add p x y) D
  unfolding key_v
  sum_key x y =
      vring positive n (vec k ⊞ var x ⊡ vec D ⊞ (vec k' ⊞ var y ⊡ vec D)) (vec k ⊞ vec k' ⊞ (var x ⊕ var y) ⊡ vec D)
      (omega arith) (omega arith) tt tt (λ i. omega arith)

  pub multiple_key : (c x : ℕ) → mul_v p c (key_v p k x D) ≡ key_v p (mul_v p c k) (mul p c x) D
  unfolding key_v
  multiple_key c x =
      vring positive n (var c ⊡ (vec k ⊞ var x ⊡ vec D)) (var c ⊡ vec k ⊞ (var c ⊗ var x) ⊡ vec D) (omega arith) (omega arith) tt tt
      (λ i. omega arith)

  -- multiply: component 0 for α = x + mₐ, component 1 for β = y + mᵦ, and β times a's key
  pub product-key : (a : List ℕ) → length a ≡ n → (m m' x mₐ y mᵦ : ℕ)
      → add_v p
      (add_v p (add_v p k' (mul_v p (add p (add p (sub p 0 (mul p mᵦ (add p x mₐ))) (mul p mᵦ mₐ)) m') D))
      (add_v p (sub_v p (sub_v p k k') (mul_v p (add p y mᵦ) a)) (mul_v p (sub p (sub p m m') (mul p (add p y mᵦ) mₐ)) D)))
      (mul_v p (add p y mᵦ) (key_v p a (add p x mₐ) D))
      ≡ key_v p k (add p (mul p x y) m) D
  unfolding key_v
  product-key a size m m' x mₐ y mᵦ =
      vring positive n
      (vec k' ⊞ (var 0 ⊖ var mᵦ ⊗ (var x ⊕ var mₐ) ⊕ var mᵦ ⊗ var mₐ ⊕ var m') ⊡ vec D
      ⊞ (vec k ⊟ vec k' ⊟ (var y ⊕ var mᵦ) ⊡ vec a ⊞ (var m ⊖ var m' ⊖ (var y ⊕ var mᵦ) ⊗ var mₐ) ⊡ vec D)
      ⊞ (var y ⊕ var mᵦ) ⊡ (vec a ⊞ (var x ⊕ var mₐ) ⊡ vec D))
      (vec k ⊞ (var x ⊗ var y ⊕ var m) ⊡ vec D) (omega arith) (omega arith) tt tt (λ i. omega arith)

  -- select, where the bit's external value is 0: the bit is its mask w; d has value x and mask y
  pub chosen_0_key : (m m' w x y : ℕ)
      → add_v p (add_v p k' (mul_v p m' D))
      (add_v p (sub_v p k k') (mul_v p (add p (sub p (mul p (add p x y) w) (mul p w y)) (sub p m m')) D))
      ≡ key_v p k (add p (mul p w x) m) D
  unfolding key_v
  chosen_0_key m m' w x y =
      vring positive n
      (vec k' ⊞ var m' ⊡ vec D ⊞ (vec k ⊟ vec k' ⊞ ((var x ⊕ var y) ⊗ var w ⊖ var w ⊗ var y ⊕ (var m ⊖ var m')) ⊡ vec D))
      (vec k ⊞ (var w ⊗ var x ⊕ var m) ⊡ vec D) (omega arith) (omega arith) tt tt (λ i. omega arith)

  -- and where it is 1: the bit is 1 - w, and d's own key is added
  pub chosen_1_key : (d : List ℕ) → length d ≡ n → (m m' w x y : ℕ)
      → add_v p
      (add_v p (add_v p (sub_v p k' d) (mul_v p (sub p m' y) D)) (key_v p d (add p x y) D))
      (add_v p (sub_v p k k') (mul_v p (add p (add p (sub p 0 (mul p (add p x y) w)) (mul p w y)) (sub p m m')) D))
      ≡ key_v p k (add p (mul p (sub p 1 w) x) m) D
  unfolding key_v
  chosen_1_key d size m m' w x y =
      vring positive n
      (vec k' ⊟ vec d ⊞ (var m' ⊖ var y) ⊡ vec D ⊞ (vec d ⊞ (var x ⊕ var y) ⊡ vec D)
      ⊞ (vec k ⊟ vec k' ⊞ (var 0 ⊖ (var x ⊕ var y) ⊗ var w ⊕ var w ⊗ var y ⊕ (var m ⊖ var m')) ⊡ vec D))
      (vec k ⊞ ((var 1 ⊖ var w) ⊗ var x ⊕ var m) ⊡ vec D) (omega arith) (omega arith) tt tt (λ i. omega arith)
