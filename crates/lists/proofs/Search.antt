-- A loop that looks for the lowest number of which a test holds, as an invariant with its laws.
--
-- How to prove `while i < n { if bad(i) { return i; } i += 1; } i`, with `r ≡ first n test` promised:
--     invariant      Inv-loop .. i = Looking n test i
--     measure        n - i
--     loop-holds     looking_start
--     loop-again     looking_on (.. .loop .inv) (.. .loop-test .taken) e      with e : test i ≡ false
--     returns        looking_found (.. .loop .inv) (.. .loop-test .taken) e   with e : test i ≡ true; at the end looking_none (.. .loop .inv) (.. .loop-test .left)
-- Assumes nothing.
use mathlib.Core.Path.{◌≡◌, sym, ◌∙◌}
use mathlib.Core.Bool.{Bool, true, false}
use Prim.Native.Nat.{ℕ, ◌+◌, ◌≤◌, ◌<◌}
use native.Mathlib.Decide.{dec_lt}
use native.Mathlib.Omega.{arith}
use Rattle.lists.specs.First.{first}
use Rattle.lists.proofs.First.{first-at, first_none}

-- the test fails of every number before i
pub record Looking (n : ℕ) (test : ℕ → Bool) (i : ℕ) : Type 0 where
  pub within : i ≤ n
  pub failed : (j : ℕ) → j < i → test j ≡ false

module _ {n : ℕ} {test : ℕ → Bool} where
  pub looking_start : Looking n test 0
  looking_start = record { within = omega arith; failed = λ j l. absurd (omega arith) }

  module _ {i : ℕ} (r : Looking n test i) where
    pub looking_on : i < n → test i ≡ false → Looking n test (i + 1)
    looking_on h e = record { within = omega arith; failed = λ j l. by j l (dec_lt j i) }
      where
        by : (j : ℕ) → j < i + 1 → Dec (j < i) → test j ≡ false
        by j l (yes m) = r.failed j m
        by j l (no m) = let k : j ≡ i = omega arith in rw k e

    pub looking_found : i < n → test i ≡ true → i ≡ first n test
    looking_found h e = sym (first-at n i test h r.failed e)

    pub looking_none : n ≤ i → i ≡ first n test
    looking_none h =
        let k : i ≡ n = omega (arith, r.within) in
        k ∙ sym (first_none n test (λ j l. r.failed j (omega arith)))
