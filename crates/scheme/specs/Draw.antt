-- What parties drew, taken out of their contributions. The keys of all parties on a wire stand one after another in one vector, parties
-- ascending: n times K residues. So do the offsets of a modulus.
-- Assumes nothing.
use Rattle.std.specs.Prelude.{List, ℕ, ◌%◌, get_or}
use Rattle.lists.specs.Blocks.{sum_to, blocks, part, nth_piece}
use Rattle.words.specs.declared.gate.Wire.{Wire}
use Rattle.circuit.specs.Wires.{modulus_at}
use Rattle.scheme.specs.Contribution.{offset_at, key_at, share_at, contribution_size}

pub record Draw : Type 0 where
  -- the offsets of a modulus
  pub offset : ℕ → List ℕ
  -- the keys of a wire's record: 0 the zero keys, 1 and 2 the first parts
  pub key : ℕ → ℕ → List ℕ
  -- the sums of the mask shares of a wire's record, modulo its prime: 0 the mask, 1 and 2 the first parts
  pub mask : ℕ → ℕ → ℕ

-- what n parties drew, from their contributions one after another
unfoldable pub drawn : ℕ → ℕ → List Wire → List ℕ → Draw
drawn n K wires contributions =
    let of : ℕ → List ℕ = λ party. nth_piece contributions (contribution_size K wires) party in
    record {
      offset = λ p. blocks n (λ party. part (of party) (offset_at K wires p) K);
      key = λ w j. blocks n (λ party. part (of party) (key_at K wires w j) K);
      mask = λ w j. sum_to n (λ party. get_or (of party) (share_at K wires w j) 0) % modulus_at wires w;
    }
