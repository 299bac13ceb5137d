-- A loop that puts one row after another, for α from 0 to p − 1: the invariant is `Level`, a row is n·K bytes, and the code knows that number as the length of a vector.
-- Assumes nothing.
use mathlib.Core.Path.{◌≡◌, ap, ◌∙◌}
use mathlib.Core.List.{List}
use Prim.Native.Nat.{ℕ, ◌+◌, ◌-◌, ◌*◌, ◌≤◌, ◌<◌}
use native.Mathlib.Omega.{arith}
use lib.ListN.{length, take, drop}
use Rattle.lists.proofs.Written.{lent}
use Rattle.lists.proofs.Steps.{Level, steps_fits, steps_long, steps_call}
use Rattle.session.specs.Sizes.{Vector}
use Rattle.rows.specs.Made.{Room}

module _ {n K p : ℕ} {out₀ : List ℕ} {f : ℕ → List ℕ} {α at : ℕ} {out : List ℕ} {zero : List ℕ} (z : Vector n K zero) (r : Level out₀ 0 α p (n * K) f at out) (h : α < p) where
  -- the next row fits
  pub next_fits : at + length zero ≤ length out
  next_fits = omega (arith, steps_fits r h, z.size)

  -- what a call is lent for it is one row
  pub next-part : {q rows : ℕ} → Room n K q out₀ rows → Room n K q (take (at + length zero - at) (drop at out)) 1
  next-part v =
      record {
        sizes = v.sizes;
        modulus = v.modulus;
        size = steps_long r h (ap (λ (m : ℕ). at + m) z.size) ∙ omega arith;
      }

  -- and it stands
  pub next_row : {ys : List ℕ} → length ys ≡ length (take (at + length zero - at) (drop at out)) → ys ≡ f α
      → Level out₀ 0 (α + 1) p (n * K) f (at + length zero) (lent at (at + length zero) out ys)
  next_row k e = steps_call r h (ap (λ (m : ℕ). at + m) z.size) k e
