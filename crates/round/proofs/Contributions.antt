-- The checks of contributions, 16 and 17: exactly what they say of the bytes; and what passes for all parties passes for one.
-- Assumes nothing.
use mathlib.Core.Path.{◌≡◌, refl, sym, ◌∙◌}
use mathlib.Core.Bool.{Bool, true, false, ◌&&◌}
use mathlib.Core.List.{List, [], ◌∷◌}
use Prim.Native.Nat.{ℕ, zero, suc, ◌*◌, ◌<◌}
use native.Mathlib.Omega.{arith}
use lib.ListN.{length}
use Rattle.lists.specs.Blocks.{blocks, part, nth_piece}
use Rattle.lists.proofs.Blocks.{length_blocks_same}
use Rattle.residue.specs.Vector.{NotZero}
use Rattle.checks.specs.declared.Refusal.TheVariants.{ContributionTooLarge, ZeroOffset}
use Rattle.checks.proofs.Passed.{none_bad_passed, none_bad_none}
use Rattle.words.specs.declared.gate.Wire.{Wire}
use Rattle.counts.specs.Moduli.{used, some_below}
use Rattle.scheme.specs.Contribution.{offset_at, contribution_size, contribution_moduli}
use Rattle.scheme.specs.Draw.{drawn}
use Rattle.scheme.proofs.Used.{some_below_none, some_below_fails}
use Rattle.scheme.proofs.ByteModuli.{length-contribution_moduli}
use Rattle.scheme.proofs.EachBelow.{EachBelow, each_nth, nth_each}
use Rattle.scheme.proofs.Contributed.{Contributed, length_nth, nth_whole}
use Rattle.scheme.proofs.Drawn.{own-offset, offset_nth}
use Rattle.scheme.specs.Bytes.{all_zero, contributions_checked, zero_offset, offsets_checked}
use Rattle.scheme.proofs.ByteChecks.{bytes-passed, bytes_below}
use Rattle.checks.specs.Answer.{accepts}

-- ---- 16

module _ (n K : ℕ) (wires : List Wire) (contributions : List ℕ) where
  pub contributions-below : length contributions ≡ n * contribution_size K wires → contributions_checked n K wires contributions ≡ accepts → Contributed n K wires contributions
  unfolding contributions_checked
  contributions-below e k =
      let moduli : List ℕ = contribution_moduli K wires in
      let u : EachBelow contributions (blocks n (λ _. moduli)) = record {
        size = e ∙ sym (length_blocks_same n (contribution_size K wires) (λ _. moduli) (λ _ _. length-contribution_moduli K wires));
        entry = bytes_below contributions (blocks n (λ _. moduli)) ContributionTooLarge k;
      } in
      record { size = e; party = each_nth (length-contribution_moduli K wires) u }

  pub contributions_passed : Contributed n K wires contributions → contributions_checked n K wires contributions ≡ accepts
  unfolding contributions_checked
  contributions_passed r =
      bytes-passed contributions (blocks n (λ _. contribution_moduli K wires)) ContributionTooLarge
      (nth_each n (contribution_size K wires) r.size r.party).entry

-- ---- a list of zeros, by the test

pub not-zero : (xs : List ℕ) → all_zero xs ≡ false → NotZero xs
unfolding all_zero
not-zero [] e = let z : ◌≡◌ {A = ℕ} 0 1 = cc in absurd (omega arith)
not-zero (zero ∷ xs) e =
    let r = not-zero xs e in
    record { place = suc r.place; inside = omega arith; entry = r.entry }
not-zero (suc x ∷ xs) e = record { place = 0; inside = omega arith; entry = omega arith }

-- ---- 17

and-false : (a b : Bool) → (a && b) ≡ false → a ≡ true → b ≡ false
and-false true b e h = e
and-false false b e h = cc

module _ (n K : ℕ) (wires : List Wire) (contributions : List ℕ) where
  -- party s's offset of modulus p, as it stands in the contributions
  abbrev offset_of : ℕ → ℕ → List ℕ
  offset_of p s = part (nth_piece contributions (contribution_size K wires) s) (offset_at K wires p) K

  pub offsets_not_zero : offsets_checked n K wires contributions ≡ accepts → (p s : ℕ) → p < 256 → used wires p ≡ true → s < n
      → all_zero (part (nth_piece contributions (contribution_size K wires) s) (offset_at K wires p) K) ≡ false
  unfolding offsets_checked zero_offset
  offsets_not_zero e p s h t l =
      some_below_none n (λ s. all_zero (offset_of p s))
      (and-false (used wires p) (some_below n (λ s. all_zero (offset_of p s)))
      (none_bad_none 256 (zero_offset n K wires contributions) ZeroOffset e p h) t)
      s l

  pub offsets_passed : ((p s : ℕ) → p < 256 → used wires p ≡ true → s < n
      → all_zero (part (nth_piece contributions (contribution_size K wires) s) (offset_at K wires p) K) ≡ false)
      → offsets_checked n K wires contributions ≡ accepts
  unfolding offsets_checked zero_offset
  offsets_passed fine =
      none_bad_passed 256 (zero_offset n K wires contributions) ZeroOffset (λ p h. go p h (used wires p) refl)
    where
      go : (p : ℕ) → p < 256 → (b : Bool) → used wires p ≡ b → (b && some_below n (λ s. all_zero (offset_of p s))) ≡ false
      go p h false t = refl
      go p h true t = some_below_fails n (λ s. all_zero (offset_of p s)) (λ s l. fine p s h t l)

-- ---- what passes for all parties passes for party s alone, and its offsets are not zero

module _ (n K : ℕ) (wires : List Wire) (contributions : List ℕ) (s : ℕ) (party : s < n) where
  module _ (long : length contributions ≡ n * contribution_size K wires) (fine : offsets_checked n K wires contributions ≡ accepts) where
    pub own_offsets_passed : offsets_checked 1 K wires (nth_piece contributions (contribution_size K wires) s) ≡ accepts
    own_offsets_passed =
        offsets_passed 1 K wires (nth_piece contributions (contribution_size K wires) s)
        (λ p t h u l. (
        let z : t ≡ 0 = omega arith in
        rw (
          z,
          nth_whole (nth_piece contributions (contribution_size K wires) s) (contribution_size K wires)
              (length_nth n (contribution_size K wires) contributions long s party),
        )
        (offsets_not_zero n K wires contributions fine p s h u party)))

    pub own_offset_not_zero : (p : ℕ) → used wires p ≡ true → p < 256 → NotZero ((drawn 1 K wires (nth_piece contributions (contribution_size K wires) s)).offset p)
    own_offset_not_zero p t h =
        rw (own-offset n K wires contributions long p t h s party, offset_nth n K wires contributions long p t h s party)
        (not-zero (part (nth_piece contributions (contribution_size K wires) s) (offset_at K wires p) K)
        (offsets_not_zero n K wires contributions fine p s h t party))
