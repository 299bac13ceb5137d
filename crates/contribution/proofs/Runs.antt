-- A loop that searches a buffer for a byte that is too large, block by block, as an invariant with its laws.
--
-- How to prove `for i in 0..count { let found = f(piece(bytes, at, s)); if found < s { return at + found; } at += s; } at`, where f's contract says
-- that it found the first that is too large in its part:
--     invariant         Searched bytes moduli count size l.i l.at
--     loop-i-init       searched_start e                          with e : sum_to count size ≡ length bytes
--     the part          omega (arith, searched-fits c.loop-i.invariant c.loop-i-test.true)
--     loop-i-preserved  run_on m c.loop-i.invariant c.loop-i-test.true d k y c.f.ensures c.if-found.false      with d : p ≡ m i, k : s ≡ size i, y : what was searched ≡ part bytes at s
--     returns           run_found of the same, with c.if-found.true; at the end searched-done c.loop-i.invariant c.loop-i-test.false
-- `run_` where the moduli are runs of one modulus each, `block_` where they are blocks.
-- Assumes nothing.
use mathlib.Core.Path.{◌≡◌, refl, sym, ap, ap₂, ◌∙◌}
use mathlib.Core.List.{List}
use Prim.Native.Nat.{ℕ, ◌+◌, ◌≤◌, ◌<◌}
use native.Mathlib.Omega.{arith}
use lib.Dec.{leb}
use lib.ListN.{length, get_or}
use Rattle.lists.specs.Blocks.{blocks, runs, part, sum_to}
use Rattle.lists.specs.First.{first}
use Rattle.lists.proofs.Parts.{length_part, get_d_part}
use Rattle.lists.proofs.Sums.{sum_to-next, sum_to-fits}
use Rattle.lists.proofs.Blocks.{get_or-blocks, get_or-runs}
use Rattle.lists.proofs.Search.{Looking, looking_start, looking_none}
use Rattle.lists.proofs.Windows.{window_on, window_found}
use Rattle.session.specs.Session.{too_large}
use Rattle.contribution.specs.Large.{first_large}

-- i of count blocks are searched, up to at, and each byte there is below its modulus
pub record Searched (xs moduli : List ℕ) (count : ℕ) (size : ℕ → ℕ) (i at : ℕ) : Type 0 where
  pub turns : i ≤ count
  pub place : at ≡ sum_to i size
  pub room : sum_to count size ≡ length xs
  pub looking : Looking (length xs) (too_large xs (λ j. get_or moduli j 0)) at

module _ {xs moduli : List ℕ} {count : ℕ} {size : ℕ → ℕ} where
  pub searched_start : sum_to count size ≡ length xs → Searched xs moduli count size 0 0
  unfolding sum_to
  searched_start e = record { turns = omega arith; place = refl; room = e; looking = looking_start }

  module _ {i at : ℕ} (r : Searched xs moduli count size i at) where
    pub searched-fits : i < count → at + size i ≤ length xs
    searched-fits h = omega (arith, r.room, r.place, sum_to-fits i count size h)

    pub searched-all : count ≤ i → at ≡ length xs
    searched-all h = let k : i ≡ count = omega (arith, r.turns) in r.place ∙ ap (λ (m : ℕ). sum_to m size) k ∙ r.room

    pub searched-done : count ≤ i → at ≡ first_large xs (λ j. get_or moduli j 0)
    searched-done h = looking_none r.looking (omega (arith, searched-all h))

    -- block i, whose bytes have the moduli that `modulus` says
    module _ (h : i < count) {s found : ℕ} (modulus : ℕ → ℕ) (k : s ≡ size i)
        (same : (j : ℕ) → j < s → get_or moduli (at + j) 0 ≡ modulus j) (e : found ≡ first_large (part xs at s) modulus) where
      inside : at + s ≤ length xs
      inside = omega (arith, searched-fits h)

      alike : (j : ℕ) → j < s → too_large xs (λ j. get_or moduli j 0) (at + j) ≡ too_large (part xs at s) modulus j
      alike j l = ap₂ leb (same j l) (sym (get_d_part xs at s j 0 l))

      first_is : found ≡ first s (too_large (part xs at s) modulus)
      first_is = e ∙ ap (λ (n : ℕ). first n (too_large (part xs at s) modulus)) (length_part xs at s inside)

      pub searched_on : s ≤ found → Searched xs moduli count size (i + 1) (at + s)
      searched_on l = record {
        turns = omega arith;
        place = omega (arith, r.place, sum_to-next i size);
        room = r.room;
        looking = window_on r.looking inside alike first_is l;
      }

      pub searched-found : found < s → at + found ≡ first_large xs (λ j. get_or moduli j 0)
      searched-found l = window_found r.looking inside alike first_is l

-- block i is a run of one modulus
module _ {xs : List ℕ} {count : ℕ} {size : ℕ → ℕ} (m : ℕ → ℕ) {i at : ℕ} (r : Searched xs (runs count size m) count size i at) (h : i < count)
    {p s found : ℕ} (d : p ≡ m i) (k : s ≡ size i) {ys : List ℕ} (y : ys ≡ part xs at s) (e : found ≡ first (length ys) (λ j. leb p (get_or ys j 0))) where
  run_first : found ≡ first_large (part xs at s) (λ _. p)
  run_first = e ∙ ap (λ (zs : List ℕ). first_large zs (λ _. p)) y

  run_same : (j : ℕ) → j < s → get_or (runs count size m) (at + j) 0 ≡ p
  run_same j l =
      ap (λ (a : ℕ). get_or (runs count size m) (a + j) 0) r.place ∙ get_or-runs count size m i j 0 h (omega arith) ∙ sym d

  pub run_on : s ≤ found → Searched xs (runs count size m) count size (i + 1) (at + s)
  run_on l = searched_on r h (λ _. p) k run_same run_first l

  pub run_found : found < s → at + found ≡ first_large xs (λ j. get_or (runs count size m) j 0)
  run_found l = searched-found r h (λ _. p) k run_same run_first l

-- block i has a list of moduli
module _ {xs : List ℕ} {count : ℕ} {size : ℕ → ℕ} (ms : ℕ → List ℕ) (sizes : (j : ℕ) → j < count → length (ms j) ≡ size j) {i at : ℕ}
    (r : Searched xs (blocks count ms) count size i at) (h : i < count) {s found : ℕ} (k : s ≡ size i) {ys : List ℕ} (y : ys ≡ part xs at s)
    (e : found ≡ first_large ys (λ j. get_or (ms i) j 0)) where
  block_first : found ≡ first_large (part xs at s) (λ j. get_or (ms i) j 0)
  block_first = e ∙ ap (λ (zs : List ℕ). first_large zs (λ j. get_or (ms i) j 0)) y

  block_same : (j : ℕ) → j < s → get_or (blocks count ms) (at + j) 0 ≡ get_or (ms i) j 0
  block_same j l =
      ap (λ (a : ℕ). get_or (blocks count ms) (a + j) 0) r.place ∙ get_or-blocks count ms size sizes i j 0 h (omega arith)

  pub block_on : s ≤ found → Searched xs (blocks count ms) count size (i + 1) (at + s)
  block_on l = searched_on r h (λ j. get_or (ms i) j 0) k block_same block_first l

  pub block_found : found < s → at + found ≡ first_large xs (λ j. get_or (blocks count ms) j 0)
  block_found l = searched-found r h (λ j. get_or (ms i) j 0) k block_same block_first l
