-- Document 02, order 8: "The garbler draws offsets and the zero keys of inputs, laid out in that order, K·(Q + I) bytes." Moduli ascending, then inputs in
-- wire order, K bytes each.
-- Assumes nothing.
use Rattle.std.specs.Prelude.{List, ◌++◌, ℕ, ◌+◌, ◌*◌}
use Rattle.lists.specs.Blocks.{part, runs}
use Rattle.words.specs.declared.gate.Wire.{Wire}
use Rattle.circuit.specs.Wires.{modulus_at, inputs_in}
use Rattle.counts.specs.Counts.{mark}
use Rattle.counts.specs.Moduli.{used, moduli_used}
use Rattle.scheme.specs.Contribution.{offset_at}

-- K is the key length
module _ (K : ℕ) (wires : List Wire) where
  unfoldable pub draw_size : ℕ
  draw_size = K * (moduli_used wires + inputs_in wires)

  -- where the zero key of input w starts
  unfoldable pub input_at : ℕ → ℕ
  input_at w = K * (moduli_used wires + w)

  -- the modulus that each byte of a draw is below: an offset's own, a zero key's that of its input
  unfoldable pub draw_moduli : List ℕ
  draw_moduli = runs 256 (λ p. K * mark (used wires p)) (λ p. p) ++ runs (inputs_in wires) (λ w. K) (modulus_at wires)

  -- the offset of modulus p, and the zero key of input w
  unfoldable pub offset_in : List ℕ → ℕ → List ℕ
  offset_in draw p = part draw (offset_at K wires p) K

  unfoldable pub zero_in : List ℕ → ℕ → List ℕ
  zero_in draw w = part draw (input_at w) K
