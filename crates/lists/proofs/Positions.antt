-- A chain that looks for the first element that passes a test, and the lowest number of which a test holds: `xs.iter().position(test).unwrap_or(n)` is
-- `first n`, where n is the list's length.
-- Assumes nothing.
use mathlib.Core.Path.{◌≡◌, refl, sym, ap, ◌∙◌}
use mathlib.Core.Bool.{Bool, true, false, cond, not}
use mathlib.Core.List.{List, [], ◌∷◌}
use Prim.Native.Nat.{ℕ, zero, suc, ◌+◌}
use native.Mathlib.Omega.{arith}
use borrow.Author.Tests.{ltb-false}
use lib.Dec.{ltb}
use lib.ListN.{length, get_or}
use Rattle.std.specs.List.{position, position_or_len}
use Rattle.std.specs.Prelude.{Some, None}
use Rattle.std.specs.Option.{unwrap_or}
use Rattle.lists.specs.First.{first_from, first}
use Rattle.lists.proofs.First.{first-most}

-- counted from one number more, a search ends one number later
later : (left from : ℕ) (test : ℕ → Bool) → first_from (suc from) left test ≡ suc (first_from from left (λ i. test (suc i)))
unfolding first_from
later zero from test = refl
later (suc left) from test = by (test (suc from)) (later left (suc from) test)
  where
    by : (b : Bool) {x y : ℕ} → x ≡ suc y → cond b (suc from) x ≡ suc (cond b from y)
    by true e = refl
    by false e = e

-- which of two numbers is taken by a test, and what a search gives where it may find none
by_test : (b : Bool) (m n : ℕ) → m ≡ n → cond (not b) (1 + m) 0 ≡ cond b 0 (suc n)
by_test true m n e = refl
by_test false m n e = omega arith

taken : (b : Bool) {place n : ℕ} → (b ≡ false → place ≡ n) → unwrap_or (cond b (Some place) None) n ≡ place
taken true e = refl
taken false e = sym (e refl)

module _ {A : Type 0} (test : A → Bool) (d : A) where
  first-place : (xs : List A) → position_or_len test xs ≡ first (length xs) (λ i. test (get_or xs i d))
  unfolding first first_from
  first-place [] = refl
  first-place (x ∷ xs) =
      by_test (test x) (position_or_len test xs) (first (length xs) (λ i. test (get_or xs i d))) (first-place xs)
      ∙ ap (λ (m : ℕ). cond (test x) 0 m) (sym (later (length xs) 0 (λ i. test (get_or (x ∷ xs) i d))))

  -- the numbers of a list's elements, n of them
  pub first-position : (xs : List A) {n r : ℕ} → length xs ≡ n → r ≡ unwrap_or (position test xs) n → r ≡ first n (λ i. test (get_or xs i d))
  first-position xs {n} {r} long e =
      rw (← long)
      (e
      ∙ ap (λ (m : ℕ). unwrap_or (position test xs) m) (sym long)
      ∙ taken (ltb (position_or_len test xs) (length xs)) (λ past. omega (arith, ltb-false _ _ past, first-place xs, first-most (length xs) (λ i. test (get_or xs i d))))
      ∙ first-place xs)
