-- Laws of the moduli in use: a wire's modulus is one of them, and the places of their offsets follow each other.
-- Assumes nothing.
use mathlib.Core.Path.{◌≡◌, refl, sym, ap, ◌∙◌}
use mathlib.Core.Logic.{⊎_elim}
use mathlib.Core.Bool.{Bool, true, false, ◌||◌}
use mathlib.Core.List.{List}
use Prim.Native.Nat.{ℕ, zero, suc, ◌+◌, ◌≤◌, ◌<◌}
use native.Mathlib.Nat.{not-suc-le-zero, eq-or-lt_of_le, le_of_suc-le-suc, le_refl}
use native.Mathlib.Omega.{arith}
use lib.Dec.{eqb}
use lib.ListN.{length}
use borrow.Author.Tests.{eq-eqb}
use Rattle.lists.proofs.Sums.{sum_to-fits}
use Rattle.words.specs.declared.gate.Wire.{Wire}
use Rattle.circuit.specs.Wires.{modulus_at}
use Rattle.counts.specs.Counts.{mark}
use Rattle.counts.specs.Moduli.{some_below, used, used_below}

-- ---- a test that holds of some number below n

or_false_left : (a b : Bool) → (a || b) ≡ false → a ≡ false
or_false_left false b e = refl
or_false_left true b e = e

or_false_right : (a b : Bool) → (a || b) ≡ false → b ≡ false
or_false_right false b e = e
or_false_right true b e = cc

pub some_below_none : (n : ℕ) (test : ℕ → Bool) → some_below n test ≡ false → (i : ℕ) → i < n → test i ≡ false
unfolding some_below
some_below_none zero test e i h = absurd (not-suc-le-zero h)
some_below_none (suc n) test e i h =
    ⊎_elim
    (λ (w : i ≡ n). rw w (or_false_right (some_below n test) (test n) e))
    (λ (w : i < n). some_below_none n test (or_false_left (some_below n test) (test n) e) i w)
    (eq-or-lt_of_le (le_of_suc-le-suc h))

pub some_below_fails : (n : ℕ) (test : ℕ → Bool) → ((i : ℕ) → i < n → test i ≡ false) → some_below n test ≡ false
unfolding some_below
some_below_fails zero test fails = refl
some_below_fails (suc n) test fails = rw (some_below_fails n test (λ i h. fails i (omega arith)), fails n (le_refl (suc n)))

pub some_below-at : (n : ℕ) (test : ℕ → Bool) (i : ℕ) → i < n → test i ≡ true → some_below n test ≡ true
some_below-at n test i h e = go (some_below n test) refl
  where
    go : (b : Bool) → some_below n test ≡ b → some_below n test ≡ true
    go true k = k
    go false k = let z : ◌≡◌ {A = Bool} true false = sym e ∙ some_below_none n test k i h in cc

-- ---- moduli in use

pub used-modulus : (wires : List Wire) (w : ℕ) → w < length wires → used wires (modulus_at wires w) ≡ true
used-modulus wires w h =
    some_below-at (length wires) (λ v. eqb (modulus_at wires v) (modulus_at wires w)) w h (eq-eqb (modulus_at wires w) (modulus_at wires w) refl)

-- a modulus in use has fewer below it than any number above it has
pub used_below_past : (wires : List Wire) (p q : ℕ) → used wires p ≡ true → p < q → used_below wires p + 1 ≤ used_below wires q
used_below_past wires p q e h = rw (ap mark e) at (sum_to-fits p q (λ r. mark (used wires r)) h)
