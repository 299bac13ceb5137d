-- The modulus that stands at each byte of an offset is its own, at each byte of a key its wire's; and how many moduli a contribution has.
-- Assumes nothing.
use mathlib.Core.Path.{◌≡◌, sym, ap, ◌∙◌}
use mathlib.Core.Bool.{true}
use mathlib.Core.List.{List, ◌++◌}
use Prim.Native.Nat.{ℕ, ◌+◌, ◌*◌, ◌<◌}
use native.Mathlib.Omega.{arith}
use lib.ListN.{length, get_or, length-append, get_or-append}
use lib.Seq.{get_or-append-add}
use Rattle.lists.specs.Blocks.{sum_to, runs}
use Rattle.lists.proofs.Sums.{sum_to_times}
use Rattle.lists.proofs.Blocks.{length_runs, get_or-runs}
use Rattle.words.specs.declared.gate.Wire.{Wire}
use Rattle.circuit.specs.Wires.{modulus_at}
use Rattle.counts.specs.Counts.{mark, record_keys_of, record_keys_in}
use Rattle.counts.specs.Moduli.{used, used_below, moduli_used}
use Rattle.scheme.specs.Contribution.{offset_at, record_at, key_at, contribution_size, contribution_moduli}
use Rattle.scheme.proofs.Places.{offset_past, key-inside}

module _ (K : ℕ) (wires : List Wire) where
  -- the moduli of all offsets, and those of all records
  abbrev of_offsets : List ℕ
  of_offsets = runs 256 (λ p. K * mark (used wires p)) (λ p. p)

  abbrev of_records : List ℕ
  of_records = runs (length wires) (λ w. (K + 1) * record_keys_of wires w) (modulus_at wires)

  offsets_length : length of_offsets ≡ K * moduli_used wires
  offsets_length = length_runs 256 (λ p. K * mark (used wires p)) (λ p. p) ∙ sum_to_times 256 K (λ p. mark (used wires p))

  records_length : length of_records ≡ (K + 1) * record_keys_in wires
  records_length =
      length_runs (length wires) (λ w. (K + 1) * record_keys_of wires w) (modulus_at wires) ∙ sum_to_times (length wires) (K + 1) (record_keys_of wires)

  pub length-contribution_moduli : length (contribution_moduli K wires) ≡ contribution_size K wires
  unfolding contribution_moduli contribution_size
  length-contribution_moduli = length-append of_offsets of_records ∙ rw (offsets_length, records_length)

  -- ---- offsets

  pub offset-modulus : (p i d : ℕ) → used wires p ≡ true → p < 256 → i < K → get_or (contribution_moduli K wires) (offset_at K wires p + i) d ≡ p
  unfolding contribution_moduli offset_at
  offset-modulus p i d e h l =
      get_or-append of_offsets of_records d (K * used_below wires p + i) (omega (arith, offsets_length, offset_past K wires p 256 e h))
      ∙ ap (λ (at : ℕ). get_or of_offsets (at + i) d) (sym (sum_to_times p K (λ q. mark (used wires q))))
      ∙ get_or-runs 256 (λ q. K * mark (used wires q)) (λ q. q) p i d h (rw (ap mark e) (omega arith))

  -- ---- keys

  pub key-modulus : (w j i d : ℕ) → w < length wires → j < record_keys_of wires w → i < K
      → get_or (contribution_moduli K wires) (key_at K wires w j + i) d ≡ modulus_at wires w
  unfolding contribution_moduli key_at record_at
  key-modulus w j i d made h l =
      let before : sum_to w (λ v. (K + 1) * record_keys_of wires v) ≡ (K + 1) * sum_to w (record_keys_of wires) = sum_to_times w (K + 1) (record_keys_of wires) in
      let at : K * moduli_used wires + (K + 1) * sum_to w (record_keys_of wires) + K * j + i
      ≡ length of_offsets + (sum_to w (λ v. (K + 1) * record_keys_of wires v) + (K * j + i)) = omega (arith, offsets_length, before) in
      ap (λ (k : ℕ). get_or (of_offsets ++ of_records) k d) at
      ∙ get_or-append-add of_offsets of_records (sum_to w (λ v. (K + 1) * record_keys_of wires v) + (K * j + i)) d
      ∙ get_or-runs (length wires) (λ v. (K + 1) * record_keys_of wires v) (modulus_at wires) w (K * j + i) d made
      (omega (arith, key-inside K wires (record_keys_of wires w) j h))
