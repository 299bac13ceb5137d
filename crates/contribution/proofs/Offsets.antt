-- Laws of the search for a zero offset: bytes that are all zero, in some party's contribution, at the place of a modulus in use.
-- Assumes nothing.
use mathlib.Core.Path.{◌≡◌, refl, sym, ap, ◌∙◌}
use mathlib.Core.Bool.{Bool, true, false, ◌&&◌}
use mathlib.Core.List.{List, [], ◌∷◌}
use Prim.Native.Nat.{ℕ, ◌+◌, ◌*◌, ◌≤◌, ◌<◌}
use native.Mathlib.Omega.{arith}
use lib.Dec.{eqb}
use lib.ListN.{get_or}
use Rattle.lists.specs.Blocks.{tab, part, nth_piece}
use Rattle.lists.specs.First.{first}
use Rattle.std.specs.List.{list_all}
use Rattle.lists.proofs.Blocks.{get_or-tab}
use Rattle.lists.proofs.Search.{Looking, looking_none}
use Rattle.checks.specs.declared.Refusal.TheVariants.{ZeroOffset}
use Rattle.checks.specs.Checked.{named}
use Rattle.checks.proofs.Answers.{none_bad-found}
use Rattle.words.specs.declared.gate.Wire.{Wire}
use Rattle.counts.specs.Counts.{Counts, mark}
use Rattle.counts.specs.Moduli.{used, used_below, some_below}
use Rattle.scheme.specs.Contribution.{offset_at, contribution_size}
use Rattle.scheme.proofs.Places.{offset-fits}
use Rattle.scheme.specs.Bytes.{all_zero, zero_offset, offsets_checked}
use Rattle.contribution.proofs.Wired.{mark-at}
use Rattle.checks.specs.Answer.{Answer}

-- ---- bytes that are all zero

pub zeros_all : (xs : List ℕ) → list_all (λ x. eqb x 0) xs ≡ all_zero xs
unfolding all_zero
zeros_all [] = refl
zeros_all (x ∷ xs) = ap (λ (b : Bool). eqb x 0 && b) (zeros_all xs)

-- ---- one party's part

-- the bytes that the code looks at, a piece of the party's own, are those of the whole
pub own-part : (xs : List ℕ) {ys zs : List ℕ} (size party at k : ℕ) → ys ≡ nth_piece xs size party → zs ≡ part ys at k → all_zero zs ≡ all_zero (part (nth_piece xs size party) at k)
own-part xs size party at k e f = ap all_zero (f ∙ ap (λ (ys : List ℕ). part ys at k) e)

-- ---- a modulus in use

mark-true : (b : Bool) → mark b ≡ 1 → b ≡ true
mark-true true e = refl
mark-true false e = absurd (omega arith)

mark_tests : (b : Bool) → eqb (mark b) 1 ≡ b
mark_tests true = refl
mark_tests false = refl

pub looking_as : {n i : ℕ} {test other : ℕ → Bool} → Looking n test i → ((j : ℕ) → j < n → test j ≡ other j) → Looking n other i
looking_as {n} {i} {test} {other} r e = record { within = r.within; failed = λ j l. sym (e j (omega arith)) ∙ r.failed j l }

-- where the search has come to the end there is none
pub looking_whole : {n i : ℕ} {test : ℕ → Bool} → Looking n test i → n ≤ i → n ≡ first n test
looking_whole {n} {i} {test} r h = let z : i ≡ n = omega (arith, r.within) in sym z ∙ looking_none r h

-- what the code tests of a modulus, by its marks and places
abbrev pub zero_marked : ℕ → ℕ → List ℕ → List ℕ → ℕ → List ℕ → ℕ → Bool
zero_marked n k marks ranks size xs p =
    eqb (get_or marks p 0) 1 && some_below n (λ party. all_zero (part (nth_piece xs size party) (k * get_or ranks p 0) k))

pub marked_is : (n k : ℕ) (marks ranks : List ℕ) (size : ℕ) (xs : List ℕ) (p : ℕ) {rank : ℕ} {b : Bool} → rank ≡ get_or ranks p 0
    → b ≡ (eqb (get_or marks p 0) 1 && some_below n (λ party. all_zero (part (nth_piece xs size party) (k * rank) k)))
    → zero_marked n k marks ranks size xs p ≡ b
marked_is n k marks ranks size xs p {rank} {b} e f =
    sym (f ∙ ap (λ (r : ℕ). eqb (get_or marks p 0) 1 && some_below n (λ party. all_zero (part (nth_piece xs size party) (k * r) k))) e)

module _ (n k : ℕ) (wires : List Wire) (xs : List ℕ) {marks ranks : List ℕ} {limit size : ℕ} (e : marks ≡ tab 256 (λ p. mark (used wires p)))
    (f : ranks ≡ tab 256 (used_below wires)) (g : Counts limit (contribution_size k wires) size) where
  rank_at : (p : ℕ) → p < 256 → get_or ranks p 0 ≡ used_below wires p
  rank_at p h = ap (λ (l : List ℕ). get_or l p 0) f ∙ get_or-tab 256 (used_below wires) p 0 h

  -- an offset that is marked lies inside
  pub marked_fits : (p : ℕ) {rank : ℕ} → p < 256 → rank ≡ get_or ranks p 0 → get_or marks p 0 ≡ 1 → k * rank + k ≤ size
  unfolding offset_at
  marked_fits p {rank} h z m =
      let inside = offset-fits k wires p (mark-true (used wires p) (sym (mark-at k (used wires) e p h) ∙ m)) h in
      let place : k * rank ≡ k * used_below wires p = ap (λ (r : ℕ). k * r) (z ∙ rank_at p h) in
      omega (arith, g.is)

  pub zero_same : (p : ℕ) → p < 256 → zero_marked n k marks ranks size xs p ≡ zero_offset n k wires xs p
  unfolding zero_offset offset_at
  zero_same p h =
      ap (λ (b : Bool). b && some_below n (λ party. all_zero (part (nth_piece xs size party) (k * get_or ranks p 0) k)))
      (ap (λ (m : ℕ). eqb m 1) (mark-at k (used wires) e p h) ∙ mark_tests (used wires p))
      ∙ ap (λ (r : ℕ). used wires p && some_below n (λ party. all_zero (part (nth_piece xs size party) (k * r) k))) (rank_at p h)
      ∙ ap (λ (s : ℕ). used wires p && some_below n (λ party. all_zero (part (nth_piece xs s party) (k * used_below wires p) k))) g.is

  pub zero-found : {i : ℕ} → Looking 256 (zero_marked n k marks ranks size xs) i → Looking 256 (zero_offset n k wires xs) i
  zero-found r = looking_as r zero_same

-- ---- the answer

pub offsets_met : (n k : ℕ) (wires : List Wire) (xs : List ℕ) {found : ℕ} {answer : Answer} → found ≡ first 256 (zero_offset n k wires xs) → answer ≡ named 256 found ZeroOffset
    → answer ≡ offsets_checked n k wires xs
unfolding offsets_checked
offsets_met n k wires xs e f = none_bad-found 256 (zero_offset n k wires xs) ZeroOffset e f
