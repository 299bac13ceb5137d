-- Laws of `Placed`: texts that stand one right behind another, and a number's digits.
-- Assumes nothing.
use mathlib.Core.Path.{◌≡◌, refl, sym, ap, ◌∙◌}
use mathlib.Core.List.{List, [], ◌∷◌, ◌++◌}
use Prim.Native.Nat.{ℕ, suc, ◌+◌, ◌/◌, ◌%◌, ◌^◌, ◌≤◌, ◌<◌}
use native.Mathlib.Omega.{arith}
use lib.ListN.{length, set, take, length-append}
use Rattle.lists.proofs.Written.{front-written}
use Rattle.lists.proofs.Wrote.{Wrote, wrote_as, wrote_set, wrote_put, wrote_join}
use Rattle.prices.specs.Decimal.{decimal}
use Rattle.prices.specs.Prices.{number_and, line_of}
use Rattle.prices.specs.Placed.{Placed, PlacedWithin, Narrow}
use Rattle.prices.proofs.Digits.{decimal-small, decimal_large, decimal-short, length-small, length_large}

module _ {out₀ : List ℕ} {at : ℕ} {text : List ℕ} {to : ℕ} {out : List ℕ} where
  pub placed_wrote : Placed out₀ at text to out → Wrote out₀ at text to out
  placed_wrote p = wrote_put p.is p.room p.ends refl

  pub wrote_placed : Wrote out₀ at text to out → Placed out₀ at text to out
  wrote_placed r = record { ends = r.place; room = r.room; is = r.eq }

-- what stands at the front of a buffer
pub placed_front : {out₀ : List ℕ} {text : List ℕ} {to : ℕ} {out : List ℕ} → Placed out₀ 0 text to out → take to out ≡ text
placed_front {out₀} {text} {to} {out} p = rw (p.is, p.ends) (front-written out₀ 0 text (omega (arith, p.ends, p.room)))

-- one digit, and the last of several
pub put_small : (n d : ℕ) {at : ℕ} {out : List ℕ} → n < 10 → d ≡ 48 + n → at + length (decimal n) ≤ length out → Placed out at (decimal n) (at + 1) (set out at d)
put_small n d {at} {out} h e room =
    wrote_placed (wrote_as (wrote_set (omega (arith, length-small n h))) (ap (λ (c : ℕ). c ∷ []) e ∙ sym (decimal-small n h)))

pub put_large : (n d : ℕ) {at : ℕ} {out out' : List ℕ} {last : ℕ} → 10 ≤ n → n < 2 ^ 64 → at + length (decimal n) ≤ length out → Placed out at (decimal (n / 10)) last out' → d ≡ 48 + n % 10
    → Placed out at (decimal n) (last + 1) (set out' last d)
put_large n d {at} {out} {out'} {last} l h room p e =
    let r : Wrote out at (decimal (n / 10)) last out' = placed_wrote p in
    wrote_placed
    (wrote_as
    (wrote_join r (wrote_as (wrote_set {a = d} (omega (arith, length_large n l h, r.kept, r.place))) (ap (λ (c : ℕ). c ∷ []) e)))
    (sym (decimal_large n l h)))

-- one text right behind another, or one character
module _ {out₀ : List ℕ} {at : ℕ} {xs : List ℕ} {to : ℕ} {out : List ℕ} (p : Placed out₀ at xs to out) where
  pub placed-join : {ys : List ℕ} {end : ℕ} {out' : List ℕ} → Placed out to ys end out' → Placed out₀ at (xs ++ ys) end out'
  placed-join {ys} {end} {out'} q = wrote_placed (wrote_join (placed_wrote p) (placed_wrote q))

  pub placed_char : (c : ℕ) → to < length out₀ → Placed out₀ at (xs ++ (c ∷ [])) (to + 1) (set out to c)
  placed_char c h =
      let r : Wrote out₀ at xs to out = placed_wrote p in
      wrote_placed (wrote_join r (wrote_set (omega (arith, r.kept))))

-- how long a text with one character more is
pub length_char : (xs : List ℕ) (c : ℕ) → length (xs ++ (c ∷ [])) ≡ length xs + 1
length_char xs c = length-append xs (c ∷ [])

-- how long a number with the character behind it is
pub number_short : (k n c : ℕ) → n < 10 ^ suc k → length (number_and c n) ≤ suc k + 1
number_short k n c h = omega (arith, length_char (decimal n) c, decimal-short k n h)

-- any number that the code holds
pub number-long : (n c : ℕ) → n < 2 ^ 64 → length (number_and c n) ≤ 21
number-long n c h = number_short 19 n c (omega arith)

-- four texts, one right behind another
pub placed_four : {out₀ : List ℕ} {at : ℕ} {x₁ x₂ x₃ x₄ : List ℕ} {a b c d : ℕ} {out₁ out₂ out₃ out₄ : List ℕ}
    → Placed out₀ at x₁ a out₁ → Placed out₁ a x₂ b out₂ → Placed out₂ b x₃ c out₃ → Placed out₃ c x₄ d out₄ → Placed out₀ at (x₁ ++ x₂ ++ x₃ ++ x₄) d out₄
placed_four p q r s = placed-join (placed-join (placed-join p q) r) s

-- ---- a wire's line

module _ {w k p n : ℕ} (h : Narrow w k p n) where
  pub put_line : {out₀ : List ℕ} {at a b c d : ℕ} {out₁ out₂ out₃ out₄ : List ℕ}
      → Placed out₀ at (number_and 32 w) a out₁ → Placed out₁ a (number_and 32 k) b out₂ → Placed out₂ b (number_and 32 p) c out₃ → Placed out₃ c (number_and 10 n) d out₄
      → PlacedWithin 15 out₀ at (line_of w k p n) d out₄
  unfolding line_of
  put_line p₁ p₂ p₃ p₄ =
      record {
        placed = placed_four p₁ p₂ p₃ p₄;
        most =
            omega (
              arith,
              p₁.ends,
              p₂.ends,
              p₃.ends,
              p₄.ends,
              number_short 3 w 32 h.wire,
              number_short 0 k 32 h.kind,
              number_short 2 p 32 h.modulus,
              number_short 2 n 10 h.rows,
            );
      }
