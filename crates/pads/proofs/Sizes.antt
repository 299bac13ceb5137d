-- Lengths of pads, and that their entries are residues.
-- Assumes nothing.
use mathlib.Core.Path.{◌≡◌, sym, ◌∙◌}
use mathlib.Core.List.{List}
use Prim.Native.Nat.{ℕ, zero, suc, ◌*◌}
use lib.ListN.{length, length-replicate, length-map}
use Rattle.keccak.proofs.Fits.{keccak_f-length}
use Rattle.shake.specs.Shake.{shake256, absorbed, absorb_blocks, absorb_block, zero_state}
use Rattle.shake.specs.Numbers.{numbers}
use Rattle.shake.proofs.Squeezed.{squeezed-length}
use Rattle.shake.proofs.Numbers.{numbers-length}
use Rattle.lists.proofs.Blocks.{length_blocks_same}
use Rattle.residue.proofs.Vectors.{add_v-length}
use Rattle.pads.specs.Pad.{Under, Pad, pad_input, shake_pad, pad_sum, pad_row}

-- ---- the pad itself

blocks25 : (n : ℕ) (state bytes : List ℕ) → length state ≡ 25 → length (absorb_blocks n state bytes) ≡ 25
unfolding absorb_blocks absorb_block
blocks25 zero state bytes e = e
blocks25 (suc n) state bytes e = blocks25 n _ _ (keccak_f-length _)

-- any input at all gives as many bytes as are asked for
output_length : (m : List ℕ) (d : ℕ) → length (shake256 m d) ≡ d
unfolding shake256 absorbed zero_state
output_length m d = squeezed-length d _ (blocks25 _ _ _ (length-replicate {A = ℕ} 25 0))

pub shake_pad-length : (round q K : ℕ) (input : List ℕ) → length (shake_pad round q K input) ≡ K
unfolding shake_pad
shake_pad-length round q K input =
    length-map (numbers (shake256 (pad_input round input) (8 * K))) _ ∙ numbers-length (shake256 (pad_input round input) (8 * K)) K (output_length (pad_input round input) (8 * K))

-- ---- sums and rows, of any pad that has the key's length

module _ (pad : Pad) (K q : ℕ) (sized : (input : List ℕ) → length (pad q K input) ≡ K) (under : Under) (keys : List ℕ) where
  pub pad_sum-length : (receiver n : ℕ) → length (pad_sum pad K q under keys receiver n) ≡ K
  unfolding pad_sum
  pad_sum-length receiver zero = length-replicate K 0
  pad_sum-length receiver (suc n) =
      add_v-length q (pad_sum pad K q under keys receiver n) _ (pad_sum-length receiver n ∙ sym (sized _)) ∙ pad_sum-length receiver n

  pub pad_row-length : (n : ℕ) → length (pad_row pad K q under keys n) ≡ n * K
  unfolding pad_row
  pad_row-length n = length_blocks_same n K (λ receiver. pad_sum pad K q under keys receiver n) (λ receiver _. pad_sum-length receiver n)
