-- Document 01, "What a seat contributes": where the offsets and records of one party lie. First its offsets, moduli ascending; then one
-- record per wire, in wire order. A record has keys, then as many mask shares, one byte each: zero key and mask share; in a product the
-- first part after each; in a choice two first parts after each.
-- Assumes nothing.
use Rattle.std.specs.Prelude.{List, ◌++◌, ℕ, ◌+◌, ◌*◌, length}
use Rattle.lists.specs.Blocks.{sum_to, runs}
use Rattle.words.specs.declared.gate.Wire.{Wire}
use Rattle.circuit.specs.Wires.{modulus_at}
use Rattle.counts.specs.Counts.{mark, record_keys_of, record_keys_in}
use Rattle.counts.specs.Moduli.{used, used_below, moduli_used}

-- K is the key length
module _ (K : ℕ) (wires : List Wire) where
  -- where the offset of modulus p starts
  unfoldable pub offset_at : ℕ → ℕ
  offset_at p = K * used_below wires p

  -- where the record of wire w starts
  unfoldable pub record_at : ℕ → ℕ
  record_at w = K * moduli_used wires + (K + 1) * sum_to w (record_keys_of wires)

  -- where key j of the record starts: 0 the zero key, 1 and 2 the first parts
  unfoldable pub key_at : ℕ → ℕ → ℕ
  key_at w j = record_at w + K * j

  -- where mask share j stands
  unfoldable pub share_at : ℕ → ℕ → ℕ
  share_at w j = record_at w + K * record_keys_of wires w + j

  -- K·Q + (K + 1)·(I + P + 2M + 3S) bytes
  unfoldable pub contribution_size : ℕ
  contribution_size = K * moduli_used wires + (K + 1) * record_keys_in wires

  -- the modulus that each byte of a contribution is below: an offset's own, a record's that of its wire
  unfoldable pub contribution_moduli : List ℕ
  contribution_moduli =
      runs 256 (λ p. K * mark (used wires p)) (λ p. p)
      ++ runs (length wires) (λ w. (K + 1) * record_keys_of wires w) (modulus_at wires)
