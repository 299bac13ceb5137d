-- A draw that passes the checks, 14, 16 and 27: each offset and each input's zero key has K bytes, component 0 of each offset is 1, and the bytes of a zero
-- key are below its wire's modulus.
-- Assumes nothing.
use mathlib.Core.Path.{◌≡◌, sym, ap, ◌∙◌}
use mathlib.Core.Bool.{Bool, true, false, not, ◌&&◌}
use mathlib.Core.List.{List}
use Prim.Native.Nat.{ℕ, ◌+◌, ◌*◌, ◌<◌}
use native.Mathlib.Nat.{mul-add, mul_comm}
use native.Mathlib.Omega.{arith}
use lib.Dec.{eqb}
use lib.ListN.{length, get_or}
use lib.Seq.{get_or-append-add}
use borrow.Author.Tests.{eqb-true}
use Rattle.lists.specs.Blocks.{runs, sum_to}
use Rattle.lists.proofs.Sums.{sum_to_times, sum_to_const}
use Rattle.lists.proofs.Parts.{length_part}
use Rattle.lists.proofs.Blocks.{length_runs, get_or-runs}
use Rattle.checks.specs.declared.Refusal.TheVariants.{ContributionTooLarge, OffsetNotOne}
use Rattle.checks.proofs.Passed.{none_bad_none}
use Rattle.words.specs.declared.gate.Wire.{Wire}
use Rattle.circuit.specs.Wires.{modulus_at, inputs_in}
use Rattle.circuit.specs.Accepted.{AcceptedCircuit}
use Rattle.counts.specs.Counts.{mark}
use Rattle.counts.specs.Moduli.{used, moduli_used}
use Rattle.scheme.specs.Contribution.{offset_at}
use Rattle.scheme.proofs.Used.{used-modulus}
use Rattle.scheme.proofs.EachBelow.{below-part}
use Rattle.scheme.proofs.ByteChecks.{bytes_below}
use Rattle.pair.specs.Key.{external_of}
use Rattle.pair.specs.Draw.{draw_size, input_at, draw_moduli, offset_in, zero_in}
use Rattle.pair.specs.Bytes.{draw_checked, not_one, units_checked}
use Rattle.pair.specs.Undone.{DrawnForTwo}
use Rattle.pair.proofs.Sizes.{offset-inside, input-inside}
use Rattle.pair.proofs.Reduced.{InputsBelow}
use Rattle.checks.specs.Answer.{accepts}

-- a test that is made of what is used alone, and passes
unit_tested : (used one : Bool) → (used && not one) ≡ false → used ≡ true → one ≡ true
unit_tested true true e h = h
unit_tested true false e h = sym e
unit_tested false one e h = cc

module _ (K : ℕ) (wires : List Wire) where
  -- the moduli of all offsets
  abbrev of_offsets : List ℕ
  of_offsets = runs 256 (λ p. K * mark (used wires p)) (λ p. p)

  abbrev of_inputs : List ℕ
  of_inputs = runs (inputs_in wires) (λ w. K) (modulus_at wires)

  offsets_length : length of_offsets ≡ K * moduli_used wires
  offsets_length = length_runs 256 (λ p. K * mark (used wires p)) (λ p. p) ∙ sum_to_times 256 K (λ p. mark (used wires p))

  -- the modulus that stands at a byte of an input's zero key is the input's
  input-modulus : (w i : ℕ) → w < inputs_in wires → i < K → get_or (draw_moduli K wires) (input_at K wires w + i) 0 ≡ modulus_at wires w
  unfolding draw_moduli input_at
  input-modulus w i h l =
      let place : K * (moduli_used wires + w) + i ≡ length of_offsets + (sum_to w (λ _. K) + i) =
      omega (arith, offsets_length, sum_to_const w K, mul-add K (moduli_used wires) w, mul_comm w K) in
      ap (λ (at : ℕ). get_or (draw_moduli K wires) at 0) place
      ∙ get_or-append-add of_offsets of_inputs (sum_to w (λ _. K) + i) 0
      ∙ get_or-runs (inputs_in wires) (λ _. K) (modulus_at wires) w i 0 h l

-- ---- what the checks give

module _ {file : List ℕ} {wires : List Wire} {outputs : List ℕ} (accepted : AcceptedCircuit file wires outputs) (K : ℕ) (draw : List ℕ)
    (size : length draw ≡ draw_size K wires) where
  unit_offset : units_checked K wires draw ≡ accepts → (w : ℕ) → w < length wires → external_of (offset_in K wires draw (modulus_at wires w)) ≡ 1
  unfolding units_checked not_one
  unit_offset passed w made =
      let p : ℕ = modulus_at wires w in
      let one : Bool = eqb (external_of (offset_in K wires draw p)) 1 in
      eqb-true (external_of (offset_in K wires draw p)) 1
      (unit_tested (used wires p) one (none_bad_none 256 (not_one K wires draw) OffsetNotOne passed p (accepted.fits w made).byte)
      (used-modulus wires w made))

  pub drawn_for_two : 0 < K → units_checked K wires draw ≡ accepts → DrawnForTwo K wires draw
  unfolding offset_in zero_in
  drawn_for_two some passed =
      record {
        some = some;
        offset_size = λ w made.
            length_part draw (offset_at K wires (modulus_at wires w)) K
            (omega (arith, size, offset-inside K wires (modulus_at wires w) (used-modulus wires w made) (accepted.fits w made).byte));
        unit = unit_offset passed;
        zero_size = λ w h. length_part draw (input_at K wires w) K (omega (arith, size, input-inside K wires w h));
      }

  pub inputs-below : draw_checked K wires draw ≡ accepts → InputsBelow K wires draw
  unfolding draw_checked zero_in
  inputs-below passed =
      record {
        zero = λ w h.
            below-part (modulus_at wires w) draw (input_at K wires w) K (omega (arith, size, input-inside K wires w h))
            (λ i l. rw (input-modulus K wires w i h l) at
            (bytes_below draw (draw_moduli K wires) ContributionTooLarge passed (input_at K wires w + i) (omega (arith, size, input-inside K wires w h))));
      }
