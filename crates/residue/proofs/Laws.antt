-- Small laws of residues and key vectors, each one line of `ring` or `vring`. Assumes nothing.
use mathlib.Core.Path.{◌≡◌}
use mathlib.Core.List.{List}
use Prim.Native.Nat.{ℕ, ◌<◌}
use native.Mathlib.Omega.{arith}
use lib.ListN.{length}
use Rattle.residue.specs.Residue.{add, sub}
use Rattle.residue.specs.Vector.{add_v, sub_v, AllBelow}
use Rattle.residue.proofs.Ring.{ring}
use Rattle.residue.proofs.Ring.Expr.{var, ◌⊕◌, ◌⊖◌}
use Rattle.residue.proofs.VectorRing.{vring}
use Rattle.residue.proofs.VectorRing.VExpr.{vec, ◌⊞◌, ◌⊟◌}

module _ {p : ℕ} (positive : 0 < p) where
  -- a difference undoes a sum
  pub sub-add : {a : ℕ} → a < p → (b : ℕ) → sub p (add p a b) b ≡ a
  sub-add {a} h b = ring positive (var a ⊕ var b ⊖ var b) (var a) tt h (omega arith)

  module _ (xs ys : List ℕ) (size : length xs ≡ length ys) where
    pub sub_v-add_v : AllBelow p xs → sub_v p (add_v p xs ys) ys ≡ xs
    sub_v-add_v h = vring positive (length xs) (vec xs ⊞ vec ys ⊟ vec ys) (vec xs) (omega arith) (omega arith) tt h (λ i. omega arith)

    pub add_v_assoc : (zs : List ℕ) → length xs ≡ length zs → add_v p (add_v p xs ys) zs ≡ add_v p xs (add_v p ys zs)
    add_v_assoc zs same =
        vring positive (length xs) (vec xs ⊞ vec ys ⊞ vec zs) (vec xs ⊞ (vec ys ⊞ vec zs)) (omega arith) (omega arith) tt tt
        (λ i. omega arith)
