-- Identities of key vectors, each in one line: `Ring` at every place of the vectors. A scalar is an `Expr`, a vector a `VExpr`.
-- Assumes nothing.
use mathlib.Core.Path.{◌≡◌, refl, ◌∙◌, sym, ap, ap₂}
use mathlib.Core.List.{List}
use Prim.Native.Nat.{ℕ, ◌+◌, ◌<◌}
use native.Mathlib.Omega.{arith}
use lib.ListN.{length, get_or}
use lib.Seq.{ext_get_or}
use Rattle.residue.specs.Residue.{add, sub, mul}
use Rattle.residue.specs.Vector.{add_v, sub_v, mul_v, AllBelow}
use Rattle.residue.proofs.Ring.{Expr, eval, pos, neg, Below, ring}
use Rattle.residue.proofs.Ring.Expr.{var, ◌⊕◌, ◌⊖◌, ◌⊗◌}
use Rattle.residue.proofs.Vectors.{add_v-length, sub_v-length, mul_v-length, add_v-at, sub_v-at, mul_v-at}

infixl 65 ◌⊞◌
infixl 65 ◌⊟◌
infixr 70 ◌⊡◌
pub data VExpr : Type 0 where
  vec : List ℕ → VExpr
  ◌⊞◌ : VExpr → VExpr → VExpr
  ◌⊟◌ : VExpr → VExpr → VExpr
  ◌⊡◌ : Expr → VExpr → VExpr

abbrev pub eval_v : ℕ → VExpr → List ℕ
eval_v p (vec xs) = xs
eval_v p (a ⊞ b) = add_v p (eval_v p a) (eval_v p b)
eval_v p (a ⊟ b) = sub_v p (eval_v p a) (eval_v p b)
eval_v p (c ⊡ a) = mul_v p (eval p c) (eval_v p a)

-- every vector in the expression has n entries
abbrev pub Sized : ℕ → VExpr → Type 0
Sized n (vec xs) = length xs ≡ n
Sized n (a ⊞ b) = Sized n a × Sized n b
Sized n (a ⊟ b) = Sized n a × Sized n b
Sized n (c ⊡ a) = Sized n a

-- the value's entries are below p: to be shown of a bare vector alone
abbrev pub BelowV : ℕ → VExpr → Type 0
BelowV p (vec xs) = AllBelow p xs
BelowV p (a ⊞ b) = Unit
BelowV p (a ⊟ b) = Unit
BelowV p (c ⊡ a) = Unit

-- the expression at one place
abbrev pub place : ℕ → VExpr → Expr
place i (vec xs) = var (get_or xs i 0)
place i (a ⊞ b) = place i a ⊕ place i b
place i (a ⊟ b) = place i a ⊖ place i b
place i (c ⊡ a) = c ⊗ place i a

pub eval_v_length : (p n : ℕ) (e : VExpr) → Sized n e → length (eval_v p e) ≡ n
eval_v_length p n (vec xs) s = s
eval_v_length p n (a ⊞ b) s =
    let left = eval_v_length p n a s.0 in
    let right = eval_v_length p n b s.1 in
    add_v-length p (eval_v p a) (eval_v p b) (left ∙ sym right) ∙ left
eval_v_length p n (a ⊟ b) s =
    let left = eval_v_length p n a s.0 in
    let right = eval_v_length p n b s.1 in
    sub_v-length p (eval_v p a) (eval_v p b) (left ∙ sym right) ∙ left
eval_v_length p n (c ⊡ a) s = mul_v-length p (eval p c) (eval_v p a) ∙ eval_v_length p n a s

pub eval_v_at : (p n : ℕ) (e : VExpr) → Sized n e → (i : ℕ) → i < n → get_or (eval_v p e) i 0 ≡ eval p (place i e)
eval_v_at p n (vec xs) s i h = refl
eval_v_at p n (a ⊞ b) s i h =
    let left = eval_v_length p n a s.0 in
    let right = eval_v_length p n b s.1 in
    add_v-at p (eval_v p a) (eval_v p b) (left ∙ sym right) i (omega arith)
    ∙ ap₂ (add p) (eval_v_at p n a s.0 i h) (eval_v_at p n b s.1 i h)
eval_v_at p n (a ⊟ b) s i h =
    let left = eval_v_length p n a s.0 in
    let right = eval_v_length p n b s.1 in
    sub_v-at p (eval_v p a) (eval_v p b) (left ∙ sym right) i (omega arith)
    ∙ ap₂ (sub p) (eval_v_at p n a s.0 i h) (eval_v_at p n b s.1 i h)
eval_v_at p n (c ⊡ a) s i h =
    let size = eval_v_length p n a s in
    mul_v-at p (eval p c) (eval_v p a) i (omega arith) ∙ ap (mul p (eval p c)) (eval_v_at p n a s i h)

place-below : (p n : ℕ) (e : VExpr) → Sized n e → BelowV p e → (i : ℕ) → i < n → Below p (place i e)
place-below p n (vec xs) s t i h = t.entry i (omega arith)
place-below p n (a ⊞ b) s t i h = tt
place-below p n (a ⊟ b) s t i h = tt
place-below p n (c ⊡ a) s t i h = tt

-- two vector expressions that are equal as polynomials, place by place, are equal modulo p
pub vring : {p : ℕ} → 0 < p → (n : ℕ) (e f : VExpr) → Sized n e → Sized n f → BelowV p e → BelowV p f
    → ((i : ℕ) → pos (place i e) + neg (place i f) ≡ pos (place i f) + neg (place i e)) → eval_v p e ≡ eval_v p f
vring {p} h n e f s t u v w =
    let left = eval_v_length p n e s in
    let right = eval_v_length p n f t in
    ext_get_or 0 (eval_v p e) (eval_v p f) (left ∙ sym right) λ i l.
    let inside : i < n = omega arith in
    eval_v_at p n e s i inside
    ∙ ring h (place i e) (place i f) (place-below p n e s u i inside) (place-below p n f t v i inside) (w i)
    ∙ sym (eval_v_at p n f t i inside)
