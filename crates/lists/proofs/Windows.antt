-- A search over a long range, part by part: what was found in a part, said of the whole.
-- Assumes nothing.
use mathlib.Core.Path.{◌≡◌, sym, ap, ◌∙◌, subst}
use mathlib.Core.Bool.{Bool, true, false}
use Prim.Native.Nat.{ℕ, ◌+◌, ◌-◌, ◌≤◌, ◌<◌}
use native.Mathlib.Decide.{dec_lt}
use native.Mathlib.Omega.{arith}
use Rattle.lists.specs.First.{first}
use Rattle.lists.proofs.First.{first-most, first-at, first-before, first-here}
use Rattle.lists.proofs.Search.{Looking, looking_none}

-- size of the n tests, from at on, were searched apart: they are those of `sub`
module _ {n at size found : ℕ} {test sub : ℕ → Bool} (r : Looking n test at) (fits : at + size ≤ n)
    (same : (j : ℕ) → j < size → test (at + j) ≡ sub j) (e : found ≡ first size sub) where
  failed : found ≤ size → (j : ℕ) → j < at + found → test j ≡ false
  failed h j l = go (dec_lt j at)
    where
      go : Dec (j < at) → test j ≡ false
      go (yes m) = r.failed j m
      go (no m) =
          let k : at + (j - at) ≡ j = omega arith in
          subst (λ (i : ℕ). test i ≡ false) k
          (same (j - at) (omega arith) ∙ first-before size (j - at) sub (omega arith))

  -- none of them holds, and the search goes on behind them; or the first that holds is the first of all
  pub window_on : size ≤ found → Looking n test (at + size)
  window_on h =
      let k : found ≡ size = omega (arith, first-most size sub) in
      record { within = fits; failed = λ j l. failed (omega arith) j (omega arith) }

  pub window_found : found < size → at + found ≡ first n test
  window_found h =
      sym (first-at n (at + found) test (omega arith) (failed (omega arith))
      (same found h ∙ subst (λ (i : ℕ). sub i ≡ true) (sym e) (first-here size sub (omega arith))))

  -- the last part
  pub window_last : at + size ≡ n → at + found ≡ first n test
  window_last z = go (dec_lt found size)
    where
      go : Dec (found < size) → at + found ≡ first n test
      go (yes h) = window_found h
      go (no h) =
          let k : found ≡ size = omega (arith, first-most size sub) in
          ap (λ (i : ℕ). at + i) k ∙ looking_none (window_on (omega arith)) (omega arith)
