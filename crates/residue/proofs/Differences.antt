-- A difference of key vectors as a key: p - 1 stands for -1.
-- Assumes nothing.
use mathlib.Core.Path.{◌≡◌, refl, sym, ap, ◌∙◌}
use mathlib.Core.List.{List}
use Prim.Native.Nat.{ℕ, zero, suc, ◌+◌, ◌-◌, ◌%◌, ◌<◌}
use native.Mathlib.Nat.{mod-eq_of_lt, not-suc-le-zero}
use native.Mathlib.Omega.{arith}
use lib.ListN.{length}
use Rattle.residue.specs.Residue.{sub}
use Rattle.residue.specs.Vector.{add_v, sub_v, mul_v, key_v}
use Rattle.residue.proofs.Ring.Expr.{var, ◌⊖◌}
use Rattle.residue.proofs.VectorRing.{vring}
use Rattle.residue.proofs.VectorRing.VExpr.{vec, ◌⊞◌, ◌⊟◌, ◌⊡◌}

pub minus_one : (p : ℕ) → 0 < p → sub p 0 1 ≡ p - 1
unfolding sub
minus_one zero h = absurd (not-suc-le-zero h)
minus_one (suc zero) h = refl
minus_one (suc (suc p)) h =
    ap (λ (m : ℕ). (0 + (suc (suc p) - m)) % suc (suc p)) (mod-eq_of_lt (omega arith))
    ∙ mod-eq_of_lt (omega arith)
    ∙ omega arith

pub difference_is : (p : ℕ) (a b : List ℕ) {out : List ℕ} → 0 < p → length a ≡ length b → out ≡ key_v p a (p - 1) b → out ≡ sub_v p a b
unfolding key_v
difference_is p a b h e t =
    t
    ∙ ap (λ (m : ℕ). add_v p a (mul_v p m b)) (sym (minus_one p h))
    ∙ vring h (length a) (vec a ⊞ (var 0 ⊖ var 1) ⊡ vec b) (vec a ⊟ vec b) (refl, sym e) (refl, sym e) tt tt (λ i. omega arith)
