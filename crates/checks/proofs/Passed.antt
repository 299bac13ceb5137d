-- When checks accept: a chain of them exactly if each does, a test of every number below n exactly if none is bad.
-- Assumes nothing.
use mathlib.Core.Path.{◌≡◌, refl, ◌∙◌}
use mathlib.Core.Bool.{Bool, true, false}
use Prim.Native.Nat.{ℕ, ◌<◌}
use native.Mathlib.Nat.{le_refl}
use native.Mathlib.Omega.{arith}
use lib.Dec.{leb}
use borrow.Author.Tests.{leb-true}
use Rattle.lists.specs.First.{first}
use Rattle.lists.proofs.First.{first_none, first-before}
use Rattle.checks.specs.declared.Refusal.{Refusal}
use Rattle.checks.specs.Checked.{and_then, unless, none_bad, afterwards}
use Rattle.checks.proofs.Answers.{named_past, and_then-next}
use Rattle.std.specs.Prelude.{Ok, Err}
use Rattle.checks.specs.declared.Refused.{Refused}
use Rattle.checks.specs.Answer.{Answer, accepts}

-- ---- what was refused was not accepted

pub never : {A : Type 0} {why : Refused} → Err why ≡ accepts → A
never e = let z : ◌≡◌ {A = ℕ} 0 1 = cc in absurd (omega arith)

-- ---- one check after another

pub and_then_passed : {a b : Answer} → a ≡ accepts → b ≡ accepts → and_then a b ≡ accepts
and_then_passed {a} {b} e f = and_then-next b e ∙ f

pub and_then-left : (a b : Answer) → and_then a b ≡ accepts → a ≡ accepts
unfolding and_then
and_then-left (Ok done) b e = refl
and_then-left (Err why) b e = e

pub and_then-right : (a b : Answer) → and_then a b ≡ accepts → b ≡ accepts
unfolding and_then
and_then-right (Ok done) b e = e
and_then-right (Err why) b e = cc

-- ---- one test

pub unless_passed : {b : Bool} (reason : Refusal) (place : ℕ) → b ≡ true → unless b reason place ≡ accepts
unfolding unless
unless_passed reason place e = rw (e, unless)

pub unless-true : (b : Bool) (reason : Refusal) (place : ℕ) → unless b reason place ≡ accepts → b ≡ true
unfolding unless
unless-true true reason place e = refl
unless-true false reason place e = cc

-- ---- a test of each number below n

module _ (n : ℕ) (bad : ℕ → Bool) (reason : Refusal) where
  pub none_bad_passed : ((i : ℕ) → i < n → bad i ≡ false) → none_bad n bad reason ≡ accepts
  unfolding none_bad
  none_bad_passed fine = named_past n (first n bad) reason (rw (first_none n bad fine) (le_refl n))

  pub none_bad_none : none_bad n bad reason ≡ accepts → (i : ℕ) → i < n → bad i ≡ false
  unfolding none_bad
  none_bad_none e i h = first-before n i bad (omega (arith, leb-true n (first n bad) (unless-true (leb n (first n bad)) reason (first n bad) e)))

-- ---- where the checks accept, a buffer holds what is written

pub afterwards_passed {ℓ} : {A : Type ℓ} {checks : Answer} → checks ≡ accepts → (new old : A) → afterwards checks new old ≡ new
unfolding afterwards
afterwards_passed e new old = rw (e, afterwards)
