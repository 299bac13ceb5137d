-- Laws of the lowest number of which a test holds.
-- Assumes nothing.
use mathlib.Core.Path.{◌≡◌, refl, sym, ap₂, ◌∙◌, subst}
use mathlib.Core.Logic.{⊎_elim}
use mathlib.Core.Bool.{Bool, true, false, cond}
use Prim.Native.Nat.{ℕ, zero, suc, ◌+◌, ◌≤◌, ◌<◌}
use native.Mathlib.Nat.{not-suc-le-zero, eq-or-lt_of_le, add-zero, zero-add}
use native.Mathlib.Omega.{arith}
use Rattle.lists.specs.First.{first_from, first}

-- where the tests before i fail and the one at i holds, i is the first
from_at : (left from i : ℕ) (test : ℕ → Bool) → i < left → ((j : ℕ) → j < i → test (from + j) ≡ false) → test (from + i) ≡ true → first_from from left test ≡ from + i
unfolding first_from
from_at zero from i test h before here = absurd (not-suc-le-zero h)
from_at (suc left) from zero test h before here = rw (rw add-zero at here, first_from) (sym (add-zero from))
from_at (suc left) from (suc i) test h before here =
    rw (rw add-zero at (before 0 (omega arith)), first_from)
    (from_at left (suc from) i test (omega arith) (λ j l. subst (λ m. test m ≡ false) (omega arith) (before (suc j) (omega arith)))
    (subst (λ m. test m ≡ true) (omega arith) here)
    ∙ omega arith)

from_none : (left from : ℕ) (test : ℕ → Bool) → ((j : ℕ) → j < left → test (from + j) ≡ false) → first_from from left test ≡ from + left
unfolding first_from
from_none zero from test fails = sym (add-zero from)
from_none (suc left) from test fails =
    rw (rw add-zero at (fails 0 (omega arith)), first_from)
    (from_none left (suc from) test (λ j l. subst (λ m. test m ≡ false) (omega arith) (fails (suc j) (omega arith))) ∙ omega arith)

pub first-at : (n i : ℕ) (test : ℕ → Bool) → i < n → ((j : ℕ) → j < i → test j ≡ false) → test i ≡ true → first n test ≡ i
unfolding first
first-at n i test h before here =
    from_at n 0 i test h (λ j l. subst (λ m. test m ≡ false) (sym (zero-add j)) (before j l)) (subst (λ m. test m ≡ true) (sym (zero-add i)) here)
    ∙ zero-add i

-- where the test holds of none, n
pub first_none : (n : ℕ) (test : ℕ → Bool) → ((j : ℕ) → j < n → test j ≡ false) → first n test ≡ n
unfolding first
first_none n test fails = from_none n 0 test (λ j l. subst (λ m. test m ≡ false) (sym (zero-add j)) (fails j l)) ∙ zero-add n

-- a number below n that alone meets the test is the first
pub first-only : (n i : ℕ) (test : ℕ → Bool) → i < n → test i ≡ true → ((j : ℕ) → j < n → test j ≡ true → j ≡ i) → first n test ≡ i
first-only n i test h here only = first-at n i test h (λ j l. fails j l (test j) refl) here
  where
    fails : (j : ℕ) → j < i → (b : Bool) → test j ≡ b → test j ≡ false
    fails j l true e = absurd (omega (arith, only j (omega arith) e))
    fails j l false e = e

-- the first is no more than n; tests before it fail; and it holds there, where it is below n
from-most : (left from : ℕ) (test : ℕ → Bool) → first_from from left test ≤ from + left
unfolding first_from
from-most zero from test = omega arith
from-most (suc left) from test = go (test from) (from-most left (suc from) test)
  where
    go : (b : Bool) → first_from (suc from) left test ≤ suc from + left → cond b from (first_from (suc from) left test) ≤ from + suc left
    go true h = omega arith
    go false h = omega arith

pub first-most : (n : ℕ) (test : ℕ → Bool) → first n test ≤ n
unfolding first
first-most n test = omega (arith, from-most n 0 test)

from-before : (left from i : ℕ) (test : ℕ → Bool) → from ≤ i → i < first_from from left test → test i ≡ false
unfolding first_from
from-before zero from i test h l = absurd (omega arith)
from-before (suc left) from i test h l = go (test from) refl (from-before left (suc from) i test) l
  where
    go : (b : Bool) → test from ≡ b → (from < i → i < first_from (suc from) left test → test i ≡ false) → i < cond b from (first_from (suc from) left test) → test i ≡ false
    go true e later k = absurd (omega arith)
    go false e later k = ⊎_elim (λ (w : from ≡ i). rw (← w) e) (λ (w : from < i). later w k) (eq-or-lt_of_le h)

pub first-before : (n i : ℕ) (test : ℕ → Bool) → i < first n test → test i ≡ false
unfolding first
first-before n i test l = from-before n 0 i test (omega arith) l

from-here : (left from : ℕ) (test : ℕ → Bool) → first_from from left test < from + left → test (first_from from left test) ≡ true
unfolding first_from
from-here zero from test l = absurd (omega arith)
from-here (suc left) from test l = go (test from) refl (from-here left (suc from) test) l
  where
    go : (b : Bool) → test from ≡ b → (first_from (suc from) left test < suc from + left → test (first_from (suc from) left test) ≡ true)
        → cond b from (first_from (suc from) left test) < from + suc left
        → test (cond b from (first_from (suc from) left test)) ≡ true
    go true e later k = e
    go false e later k = later (omega arith)

pub first-here : (n : ℕ) (test : ℕ → Bool) → first n test < n → test (first n test) ≡ true
unfolding first
first-here n test l = from-here n 0 test (omega arith)

-- tests that agree below n have the same first
from-ext : (left from : ℕ) (f g : ℕ → Bool) → ((i : ℕ) → from ≤ i → i < from + left → f i ≡ g i) → first_from from left f ≡ first_from from left g
unfolding first_from
from-ext zero from f g same = refl
from-ext (suc left) from f g same =
    ap₂ (λ (b : Bool) (m : ℕ). cond b from m) (same from (omega arith) (omega arith))
    (from-ext left (suc from) f g (λ i h l. same i (omega arith) (omega arith)))

pub first_ext : (n : ℕ) (f g : ℕ → Bool) → ((i : ℕ) → i < n → f i ≡ g i) → first n f ≡ first n g
unfolding first
first_ext n f g same = from-ext n 0 f g (λ i h l. same i (omega arith))
