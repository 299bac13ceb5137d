-- A loop that fills a buffer block by block, as an invariant with its laws: blocks of different sizes (`Steps`) or of one size (`Level`), also within a block.
--
-- How to prove `while i < n { let to = at + k; put(&mut out[at..to], ..); at = to; i += 1; }`, where put's contract gives the part outright, as `f i`:
--     invariant      Inv-loop out₀ .. out at i = Level out₀ 0 i n k f at out      each block has k elements
--                                              = Steps out₀ 0 i n size f at out   block i has size i elements
--     measure        n - i
--     loop-holds     level_start (omega arith)                                    from n * k ≤ length out₀;  steps_start from sum_to n size ≤ length out₀
--     add-to         omega (arith, steps_fits (.. .loop .inv) (.. .loop-test .taken))
--     part-put-end   the same
--     put-requires   omega (arith, steps_long (.. .loop .inv) (.. .loop-test .taken) refl)      the part has k elements
--     loop-again     steps_call (.. .loop .inv) (.. .loop-test .taken) refl (.. .put .kept .0) (.. .put .ensures)
--     returns        level_whole (.. .loop .inv) (.. .loop-test .left) e          with e : length out₀ ≡ n * k;  steps_whole with e : length out₀ ≡ sum_to n size
--     all others     omega arith
-- `refl` says that to is at + k: where the code has the size under another name, `omega (arith, e)`. Where put is `put_at`, `steps_put`. Where a block is
-- written by parts, `steps_wrote` with what `Wrote` has.
--
-- A loop within the loop, that writes block i as m blocks of s elements, `g`:
--     invariant      Inv-loop2 out₀ .. at₀ .. out at j = Level out₀ at₀ j m s g at out
--     loop2-holds    level_inner (.. .loop .inv) (.. .loop-test .taken) e         with e : m * s ≡ k, the outer block's size
--     loop2-again    as above
--     loop-again     level_nest (.. .loop .inv) (.. .loop-test .taken) e (.. .loop2 .inv) (.. .loop2-test .left) refl      `refl` for blocks m g ≡ f i
-- Assumes nothing.
use mathlib.Core.Path.{◌≡◌, refl, sym, ap, ◌∙◌}
use mathlib.Core.List.{List}
use Prim.Native.Nat.{ℕ, ◌+◌, ◌-◌, ◌*◌, ◌≤◌, ◌<◌}
use native.Mathlib.Nat.{le_antisymm, zero-add}
use native.Mathlib.Omega.{arith}
use lib.ListN.{length, take, drop}
use Rattle.lists.specs.Blocks.{blocks, part, sum_to, written}
use Rattle.lists.proofs.Parts.{length_range, part_same}
use Rattle.lists.proofs.Sums.{sum_to-next, sum_to-fits, sum_to_const}
use Rattle.lists.proofs.Blocks.{blocks-next, take-blocks, part-blocks}
use Rattle.lists.proofs.Written.{lent}
use Rattle.lists.proofs.Wrote.{Wrote, wrote_start, wrote_as, wrote_lent, wrote_put, wrote_join, wrote_take, wrote_whole}

-- i of the n blocks f 0, f 1, … stand from place at₀ on, up to at; block j has size j elements, and there is room for all
pub record Steps {A : Type 0} (out₀ : List A) (at₀ i n : ℕ) (size : ℕ → ℕ) (f : ℕ → List A) (at : ℕ) (out : List A) : Type 0 where
  pub turns : i ≤ n
  pub place : at ≡ at₀ + sum_to i size
  pub room : at₀ + sum_to n size ≤ length out₀
  pub kept : length out ≡ length out₀
  pub wrote : Wrote out₀ at₀ (blocks i f) at out

-- the same, where each block has s elements
abbrev pub Level : {A : Type 0} → List A → ℕ → ℕ → ℕ → ℕ → (ℕ → List A) → ℕ → List A → Type 0
Level out₀ at₀ i n s f at out = Steps out₀ at₀ i n (λ _. s) f at out

module _ {A : Type 0} {out₀ : List A} {at₀ n : ℕ} {size : ℕ → ℕ} {f : ℕ → List A} where
  pub steps_start : at₀ + sum_to n size ≤ length out₀ → Steps out₀ at₀ 0 n size f at₀ out₀
  unfolding blocks sum_to
  steps_start h = record { turns = omega arith; place = omega arith; room = h; kept = refl; wrote = wrote_start out₀ at₀ (omega arith) }

  module _ {i at : ℕ} {out : List A} (r : Steps out₀ at₀ i n size f at out) where
    -- the next block fits
    pub steps_fits : i < n → at + size i ≤ length out
    steps_fits h = omega (arith, sum_to-fits i n size h)

    -- .. and the part that a call is lent for it has its size
    pub steps_long : {to : ℕ} → i < n → to ≡ at + size i → length (take (to - at) (drop at out)) ≡ size i
    steps_long {to} h e = length_range out at to (omega arith) (omega (arith, steps_fits h)) ∙ omega arith

    -- a turn: the next block was written, by whatever means
    pub steps_wrote : {ys : List A} {to : ℕ} {out' : List A} → i < n → to ≡ at + size i → Wrote out at ys to out' → ys ≡ f i → Steps out₀ at₀ (i + 1) n size f to out'
    steps_wrote {ys} {to} {out'} h e q z =
        record {
          turns = omega arith;
          place = omega (arith, sum_to-next i size);
          room = r.room;
          kept = omega arith;
          wrote = wrote_as (wrote_join r.wrote (wrote_as q z)) (sym (blocks-next i f));
        }

    -- .. by a call that was lent `&mut out[at..to]` and left ys there
    pub steps_call : {ys : List A} {to : ℕ} → i < n → to ≡ at + size i → length ys ≡ length (take (to - at) (drop at out)) → ys ≡ f i → Steps out₀ at₀ (i + 1) n size f to (lent at to out ys)
    steps_call {ys} {to} h e k z = steps_wrote h e (wrote_lent (omega arith) (omega (arith, steps_fits h)) k z) refl

    -- .. by a call such as `put_at`, that wrote ys at at
    pub steps_put : {ys : List A} {to : ℕ} {out' : List A} → i < n → to ≡ at + size i → length ys ≡ size i → out' ≡ written out at ys → ys ≡ f i → Steps out₀ at₀ (i + 1) n size f to out'
    steps_put {ys} {to} {out'} h e l k z = steps_wrote h e (wrote_put k (omega (arith, steps_fits h)) (omega arith) z) refl

    -- all blocks stand
    pub steps_done : n ≤ i → Wrote out₀ at₀ (blocks n f) at out
    steps_done h = wrote_as r.wrote (ap (λ (m : ℕ). blocks m f) (le_antisymm r.turns h))

    -- where they end
    pub steps_end : n ≤ i → at ≡ at₀ + sum_to n size
    steps_end h = r.place ∙ ap (λ (m : ℕ). at₀ + sum_to m size) (le_antisymm r.turns h)

-- the whole buffer
pub steps_whole : {A : Type 0} {out₀ : List A} {i n : ℕ} {size : ℕ → ℕ} {f : ℕ → List A} {at : ℕ} {out : List A} → Steps out₀ 0 i n size f at out → n ≤ i → length out₀ ≡ sum_to n size → out ≡ blocks n f
steps_whole {A} {out₀} {i} {n} {size} {f} {at} {out} r h e = wrote_whole (steps_done r h) (omega (arith, steps_end r h))

-- the blocks that stand already, and one of them read back
module _ {A : Type 0} {out₀ : List A} {i n : ℕ} {size : ℕ → ℕ} {f : ℕ → List A} {at : ℕ} {out : List A} (r : Steps out₀ 0 i n size f at out) where
  pub steps_front : take at out ≡ blocks i f
  steps_front = wrote_take r.wrote

  pub steps_read : (j : ℕ) → j < i → ((k : ℕ) → k < i → length (f k) ≡ size k) → part out (sum_to j size) (size j) ≡ f j
  steps_read j h e =
      part_same out (blocks i f) (sum_to i size) (sum_to j size) (size j)
      (ap (λ (k : ℕ). take k out) (sym (zero-add (sum_to i size)) ∙ sym r.place) ∙ steps_front ∙ sym (take-blocks i f size e i (omega arith)))
      (sum_to-fits j i size h)
      ∙ part-blocks i f size e j h

-- ---- blocks within a block: m blocks stand for block i of the outer loop

module _ {A : Type 0} {out₀ : List A} {at₀ n : ℕ} {size : ℕ → ℕ} {f : ℕ → List A} {i at : ℕ} {out : List A} (r : Steps out₀ at₀ i n size f at out) where
  pub steps_inner : {m : ℕ} {size' : ℕ → ℕ} {g : ℕ → List A} → i < n → sum_to m size' ≡ size i → Steps out at 0 m size' g at out
  steps_inner {m} {size'} {g} h e = steps_start (omega (arith, steps_fits r h))

  pub steps_nest : {m j : ℕ} {size' : ℕ → ℕ} {g : ℕ → List A} {to : ℕ} {out' : List A} → i < n → sum_to m size' ≡ size i → Steps out at j m size' g to out' → m ≤ j → blocks m g ≡ f i
      → Steps out₀ at₀ (i + 1) n size f to out'
  steps_nest {m} {j} {size'} {g} {to} {out'} h e q k z = steps_wrote r h (omega (arith, steps_end q k)) (steps_done q k) z

  pub level_inner : {m s : ℕ} {g : ℕ → List A} → i < n → m * s ≡ size i → Level out at 0 m s g at out
  level_inner {m} {s} {g} h e = steps_inner h (sum_to_const m s ∙ e)

  pub level_nest : {m j s : ℕ} {g : ℕ → List A} {to : ℕ} {out' : List A} → i < n → m * s ≡ size i → Level out at j m s g to out' → m ≤ j → blocks m g ≡ f i
      → Steps out₀ at₀ (i + 1) n size f to out'
  level_nest {m} {j} {s} {g} {to} {out'} h e q k z = steps_nest h (sum_to_const m s ∙ e) q k z

-- ---- blocks of one size

module _ {A : Type 0} {out₀ : List A} {n s : ℕ} {f : ℕ → List A} where
  pub level_start : {at₀ : ℕ} → at₀ + n * s ≤ length out₀ → Level out₀ at₀ 0 n s f at₀ out₀
  level_start {at₀} h = steps_start (omega (arith, sum_to_const n s))

  pub level_place : {at₀ i at : ℕ} {out : List A} → Level out₀ at₀ i n s f at out → at ≡ at₀ + i * s
  level_place {at₀} {i} {at} {out} r = omega (arith, sum_to_const i s)

  pub level_read : {i at : ℕ} {out : List A} → Level out₀ 0 i n s f at out → (j : ℕ) → j < i → ((k : ℕ) → k < i → length (f k) ≡ s) → part out (j * s) s ≡ f j
  level_read {i} {at} {out} r j h e = ap (λ (k : ℕ). part out k s) (sym (sum_to_const j s)) ∙ steps_read r j h e

  pub level_whole : {i at : ℕ} {out : List A} → Level out₀ 0 i n s f at out → n ≤ i → length out₀ ≡ n * s → out ≡ blocks n f
  level_whole {i} {at} {out} r h e = steps_whole r h (e ∙ sym (sum_to_const n s))
