-- Polynomial identities modulo p, each in one line. An expression over numbers is written as an `Expr`; its value modulo p is a
-- difference of two natural polynomials, `pos` and `neg`, up to multiples of p. So two expressions have one value modulo p as
-- soon as `pos e + neg f ≡ pos f + neg e`, which `omega arith` shows. Holds for every p above 0. Assumes nothing.
use mathlib.Core.Path.{◌≡◌, ◌∙◌, sym, ap}
use Prim.Native.Nat.{ℕ, ◌+◌, ◌-◌, ◌*◌, ◌/◌, ◌%◌, ◌<◌}
use native.Mathlib.Nat.{mod-lt, mod-eq_of_lt, div-add-mod, add-mul-mod_self_left}
use native.Mathlib.Omega.{arith}
use Rattle.residue.specs.Residue.{add, sub, mul}

pub data Expr : Type 0 where
  var : ℕ → Expr
  ◌⊕◌ : Expr → Expr → Expr
  ◌⊖◌ : Expr → Expr → Expr
  ◌⊗◌ : Expr → Expr → Expr

infixl 65 ◌⊕◌
infixl 65 ◌⊖◌
infixl 70 ◌⊗◌
abbrev pub eval : ℕ → Expr → ℕ
eval p (var x) = x
eval p (a ⊕ b) = add p (eval p a) (eval p b)
eval p (a ⊖ b) = sub p (eval p a) (eval p b)
eval p (a ⊗ b) = mul p (eval p a) (eval p b)

abbrev mutual
  pub pos : Expr → ℕ
  pos (var x) = x
  pos (a ⊕ b) = pos a + pos b
  pos (a ⊖ b) = pos a + neg b
  pos (a ⊗ b) = pos a * pos b + neg a * neg b

  pub neg : Expr → ℕ
  neg (var x) = 0
  neg (a ⊕ b) = neg a + neg b
  neg (a ⊖ b) = neg a + pos b
  neg (a ⊗ b) = pos a * neg b + neg a * pos b

-- the expression's value is below p: to be shown of a bare number alone, since each operation reduces
abbrev pub Below : ℕ → Expr → Type 0
Below p (var x) = x < p
Below p (a ⊕ b) = Unit
Below p (a ⊖ b) = Unit
Below p (a ⊗ b) = Unit

-- x is P - N up to multiples of p
record Rep (p x P N : ℕ) : Type 0 where
  s : ℕ
  t : ℕ
  eq : x + N + p * s ≡ P + p * t

rep_add : (p a b Pa Na Pb Nb : ℕ) → Rep p a Pa Na → Rep p b Pb Nb → Rep p (add p a b) (Pa + Pb) (Na + Nb)
unfolding add
rep_add p a b Pa Na Pb Nb u v = record {
  s = u.s + v.s + (a + b) / p;
  t = u.t + v.t;
  eq = omega (arith, u.eq, v.eq, div-add-mod (a + b) p);
}

rep_sub : (p a b Pa Na Pb Nb : ℕ) → 0 < p → Rep p a Pa Na → Rep p b Pb Nb → Rep p (sub p a b) (Pa + Nb) (Na + Pb)
unfolding sub
rep_sub p a b Pa Na Pb Nb h u v = record {
  s = u.s + v.t + (a + (p - b % p)) / p;
  t = u.t + v.s + b / p + 1;
  eq = omega (arith, u.eq, v.eq, div-add-mod (a + (p - b % p)) p, div-add-mod b p, mod-lt b h);
}

expand : (p a s b t : ℕ) → (a + p * s) * (b + p * t) ≡ a * b + p * (s * b + a * t + p * (s * t))
expand p a s b t = omega arith

product : (A Na PA B Nb PB : ℕ) → A + Na ≡ PA → B + Nb ≡ PB → A * B + (PA * Nb + Na * PB) ≡ PA * PB + Na * Nb
product A Na PA B Nb PB e f = rw (← e, ← f) (omega arith)

gather : (p x q r m m' n n' X Y Y' Z : ℕ) → p * q + r ≡ x → x + p * X + (m + p * Y + (m' + p * Y')) ≡ n + p * Z + n'
    → r + (m + m') + p * (q + X + Y + Y') ≡ n + n' + p * Z
gather p x q r m m' n n' X Y Y' Z e f = omega arith

rep_mul : (p a b Pa Na Pb Nb : ℕ) → Rep p a Pa Na → Rep p b Pb Nb → Rep p (mul p a b) (Pa * Pb + Na * Nb) (Pa * Nb + Na * Pb)
unfolding mul
rep_mul p a b Pa Na Pb Nb u v =
    let s = u.s in let t = u.t in let s' = v.s in let t' = v.t in
    let left : a + p * s + Na ≡ Pa + p * t = omega (arith, u.eq) in
    let right : b + p * s' + Nb ≡ Pb + p * t' = omega (arith, v.eq) in
    let whole = product (a + p * s) Na (Pa + p * t) (b + p * s') Nb (Pb + p * t') left right in
    let first : (Pa + p * t) * Nb ≡ Pa * Nb + p * (t * Nb) = omega arith in
    let second : Na * (Pb + p * t') ≡ Na * Pb + p * (Na * t') = omega arith in
    record {
      s = a * b / p + (s * b + a * s' + p * (s * s')) + t * Nb + Na * t';
      t = t * Pb + Pa * t' + p * (t * t');
      eq = gather p (a * b) (a * b / p) (a * b % p) (Pa * Nb) (Na * Pb) (Pa * Pb) (Na * Nb) (s * b + a * s' + p * (s * s')) (t * Nb)
          (Na * t') (t * Pb + Pa * t' + p * (t * t')) (div-add-mod (a * b) p)
          (rw (expand p a s b s', first, second, expand p Pa t Pb t') at whole);
    }

rep : (p : ℕ) → 0 < p → (e : Expr) → Rep p (eval p e) (pos e) (neg e)
rep p h (var x) = record { s = 0; t = 0; eq = omega arith }
rep p h (a ⊕ b) = rep_add p (eval p a) (eval p b) (pos a) (neg a) (pos b) (neg b) (rep p h a) (rep p h b)
rep p h (a ⊖ b) = rep_sub p (eval p a) (eval p b) (pos a) (neg a) (pos b) (neg b) h (rep p h a) (rep p h b)
rep p h (a ⊗ b) = rep_mul p (eval p a) (eval p b) (pos a) (neg a) (pos b) (neg b) (rep p h a) (rep p h b)

-- an operation's value is a residue
pub eval_below : {p : ℕ} → 0 < p → (e : Expr) → Below p e → eval p e < p
unfolding add sub mul
eval_below h (var x) t = t
eval_below h (a ⊕ b) t = mod-lt _ h
eval_below h (a ⊖ b) t = mod-lt _ h
eval_below h (a ⊗ b) t = mod-lt _ h

congruent : (p x y P N Q M : ℕ) → Rep p x P N → Rep p y Q M → P + M ≡ Q + N → x % p ≡ y % p
congruent p x y P N Q M u v e =
    let both : x + p * (u.s + v.t) ≡ y + p * (u.t + v.s) = omega (arith, u.eq, v.eq, e) in
    sym (add-mul-mod_self_left x p (u.s + v.t)) ∙ ap (λ (n : ℕ). n % p) both ∙ add-mul-mod_self_left y p (u.t + v.s)

-- two expressions that are equal as polynomials are equal modulo p
pub ring : {p : ℕ} → 0 < p → (e f : Expr) → Below p e → Below p f → pos e + neg f ≡ pos f + neg e → eval p e ≡ eval p f
ring {p} h e f s t w =
    sym (mod-eq_of_lt (eval_below h e s))
    ∙ congruent p (eval p e) (eval p f) (pos e) (neg e) (pos f) (neg f) (rep p h e) (rep p h f) w
    ∙ mod-eq_of_lt (eval_below h f t)
