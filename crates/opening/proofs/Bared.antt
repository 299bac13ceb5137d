-- Rows without their pads, made in place.
-- Assumes nothing.
use mathlib.Core.Path.{◌≡◌, refl, sym, ap, ap₂, subst, ◌∙◌}
use mathlib.Core.List.{List}
use Prim.Native.Nat.{ℕ, zero, suc, ◌+◌, ◌*◌, ◌≤◌, ◌<◌}
use native.Mathlib.Omega.{arith}
use lib.ListN.{length}
use Rattle.lists.specs.Blocks.{part, nth_piece}
use Rattle.lists.proofs.Sums.{times-fits}
use Rattle.residue.specs.Vector.{add_v, sub_v, mul_v, AllBelow}
use Rattle.residue.proofs.Parts.{below-take, below-drop}
use Rattle.residue.proofs.Ring.Expr.{var}
use Rattle.residue.proofs.VectorRing.{vring}
use Rattle.residue.proofs.VectorRing.VExpr.{vec, ◌⊞◌, ◌⊟◌, ◌⊡◌}
use Rattle.contribution.proofs.Once.{add_once}
use Rattle.pads.specs.Moved.{Asked, Row}
use Rattle.pads.specs.Pad.{Under, shake_pad, pad_row, placed}
use Rattle.pads.proofs.Sizes.{shake_pad-length, pad_row-length}
use Rattle.scheme.specs.Opening.{bared, table_keys, product_keys, chosen, corrector, choice_keys}
use Rattle.session.specs.Sizes.{Sizes, Vector}
use Rattle.opening.specs.Given.{Rows}
use Rattle.opening.specs.Step.{held}

-- what pads ask of the buffer that they are taken off
pub asked : {n K q : ℕ} {xs out : List ℕ} → Sizes n K → 1 < q → AllBelow q xs → out ≡ xs → Asked q K out
asked {n} {K} {q} {xs} {out} s h b e =
    record { modulus = h; short = s.short; below = subst (λ (ys : List ℕ). AllBelow q ys) (sym e) b }

pub rowed : {n K : ℕ} {keys out : List ℕ} → Sizes n K → Vector n K keys → length out ≡ n * K → Row n K keys out
rowed s v e = record { parties = omega (arith, s.parties); senders = v.size; receivers = e }

-- a part of rows that are below p
pub below-part : {p : ℕ} {xs : List ℕ} → AllBelow p xs → (at n : ℕ) → AllBelow p (part xs at n)
unfolding part
below-part {p} {xs} b at n = below-take p n (below-drop p at b)

module _ (n K p round : ℕ) (under : Under) (senders : List ℕ) where
  abbrev pads : List ℕ
  pads = pad_row (shake_pad round) K p under senders n

  pads_length : length pads ≡ n * K
  pads_length = pad_row-length (shake_pad round) K p (shake_pad-length round p K) under senders n

  -- pads taken off a copy
  pub bare-row : {row out out' : List ℕ} → out ≡ row → out' ≡ sub_v p out pads → out' ≡ sub_v p row pads
  bare-row e f = f ∙ ap (λ (xs : List ℕ). sub_v p xs pads) e

  -- a row put on what stands there, and then its pads taken off
  pub bare_more : (row out₀ : List ℕ) {out out' : List ℕ} → 1 < p → Vector n K row → length out₀ ≡ n * K
      → out ≡ add_v p out₀ (mul_v p 1 row)
      → out' ≡ sub_v p out pads
      → out' ≡ add_v p out₀ (sub_v p row pads)
  bare_more row out₀ {out} {out'} h v l e f =
      f
      ∙ ap (λ (xs : List ℕ). sub_v p xs pads) e
      ∙ vring {p = p} (omega arith) (n * K) (vec out₀ ⊞ var 1 ⊡ vec row ⊟ vec pads) (vec out₀ ⊞ (vec row ⊟ vec pads))
      ((l, v.size), pads_length) (l, (v.size, pads_length)) tt tt (λ i. omega arith)

-- ---- rows cut out of a gate's rows

module _ {n K p count : ℕ} {rows : List ℕ} (r : Rows n K p rows count) where
  pub row_inside : {i j : ℕ} → i < count → j ≡ i → j * (n * K) + n * K ≤ length rows
  row_inside {i} {j} h e = rw (e, r.size) (times-fits i count (n * K) h)

  pub row_below : {row : List ℕ} (j : ℕ) → row ≡ nth_piece rows (n * K) j → AllBelow p row
  row_below {row} j e = subst (λ (xs : List ℕ). AllBelow p xs) (sym e) (below-part r.below (j * (n * K)) (n * K))

-- ---- the keys that they give

module _ (n K round w p : ℕ) (rows : List ℕ) where
  abbrev bare_row : ℕ → ℕ → List ℕ → List ℕ → List ℕ
  bare_row q component senders row = sub_v p row (pad_row (shake_pad round) K p (placed q w component) senders n)

  -- the row of a place, under another name
  bared_is : (q component : ℕ) (senders : List ℕ) {row : List ℕ} (r : ℕ) → row ≡ nth_piece rows (n * K) r
      → bare_row q component senders row ≡ bared (shake_pad round) n K w p rows q component senders r
  unfolding bared
  bared_is q component senders r e = ap (bare_row q component senders) e

  row_at : {row : List ℕ} {i j : ℕ} → row ≡ nth_piece rows (n * K) j → j ≡ i → row ≡ nth_piece rows (n * K) i
  row_at e f = e ∙ ap (nth_piece rows (n * K)) f

  pub table_is : (q : ℕ) (a : List ℕ) (α : ℕ) {i : ℕ} {row out : List ℕ} → row ≡ nth_piece rows (n * K) i → i ≡ α → out ≡ bare_row q 0 a row
      → out ≡ table_keys (shake_pad round) n K w p rows q (held a α)
  unfolding table_keys
  table_is q a α e f g = g ∙ bared_is q 0 a α (row_at e f)

  pub product_is : (a b : List ℕ) (α β : ℕ) {row₀ row₁ out₀ out₁ out : List ℕ} {i j : ℕ}
      → row₀ ≡ nth_piece rows (n * K) i → i ≡ α
      → row₁ ≡ nth_piece rows (n * K) j → j ≡ p + β
      → out₀ ≡ bare_row p 0 a row₀
      → out₁ ≡ add_v p out₀ (bare_row p 1 b row₁)
      → out ≡ add_v p out₁ (mul_v p β a)
      → out ≡ product_keys (shake_pad round) n K w p rows (held a α) (held b β)
  unfolding product_keys
  product_is a b α β e f g h x y z =
      z ∙ ap (λ (xs : List ℕ). add_v p xs (mul_v p β a))
      (y ∙ ap₂ (add_v p) (x ∙ bared_is p 0 a α (row_at e f)) (bared_is p 1 b (p + β) (row_at g h)))

  -- the chooser
  pub chooser_zero : (v : List ℕ) (bit : ℕ) (d : List ℕ) {i : ℕ} {row out : List ℕ} → row ≡ nth_piece rows (n * K) i → i ≡ bit → bit ≡ 0
      → out ≡ bare_row 2 0 v row → out ≡ chosen bit p (bared (shake_pad round) n K w p rows 2 0 v bit) d
  unfolding chosen
  chooser_zero v zero d e f h x = x ∙ bared_is 2 0 v 0 (row_at e f)
  chooser_zero v (suc bit) d e f h x = absurd (omega arith)

  pub chooser_one : (v : List ℕ) (bit : ℕ) (d : List ℕ) {i : ℕ} {row out out' : List ℕ} → row ≡ nth_piece rows (n * K) i → i ≡ bit → (bit ≡ 0 → ⊥)
      → out ≡ bare_row 2 0 v row → out' ≡ add_v p out (mul_v p 1 d) → out' ≡ chosen bit p (bared (shake_pad round) n K w p rows 2 0 v bit) d
  unfolding chosen
  chooser_one v zero d e f h x y = absurd (h refl)
  chooser_one v (suc bit) d {out = out} e f h x y =
      y ∙ add_once p out d ∙ ap (λ (xs : List ℕ). add_v p xs d) (x ∙ bared_is 2 0 v (suc bit) (row_at e f))

  pub choice_is : (v : List ℕ) (bit : ℕ) (d : List ℕ) (α : ℕ) {row out₀ out : List ℕ} → row ≡ nth_piece rows (n * K) (corrector p bit α)
      → out₀ ≡ chosen bit p (bared (shake_pad round) n K w p rows 2 0 v bit) d
      → out ≡ add_v p out₀ (bare_row p (1 + bit) d row)
      → out ≡ choice_keys (shake_pad round) n K w p rows (held v bit) (held d α)
  unfolding choice_keys
  choice_is v bit d α e x y = y ∙ ap₂ (add_v p) x (bared_is p (1 + bit) d (corrector p bit α) e)
