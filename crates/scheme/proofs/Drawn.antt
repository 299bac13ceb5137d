-- What is drawn out of contributions: lengths, residues, and each party's own part.
-- Assumes nothing.
use mathlib.Core.Path.{◌≡◌, sym, ap, ◌∙◌}
use mathlib.Core.Bool.{true}
use mathlib.Core.List.{List}
use Prim.Native.Nat.{ℕ, ◌+◌, ◌*◌, ◌≤◌, ◌<◌}
use native.Mathlib.Nat.{mod-lt}
use native.Mathlib.Omega.{arith}
use lib.ListN.{length}
use Rattle.lists.specs.Blocks.{blocks, part, nth_piece}
use Rattle.lists.proofs.Parts.{length_part}
use Rattle.lists.proofs.Blocks.{length_blocks_same, part_blocks_same}
use Rattle.residue.specs.Vector.{AllBelow}
use Rattle.words.specs.declared.gate.Wire.{Wire}
use Rattle.circuit.specs.Wires.{modulus_at}
use Rattle.counts.specs.Counts.{record_keys_of}
use Rattle.counts.specs.Moduli.{used}
use Rattle.scheme.specs.Contribution.{offset_at, key_at, contribution_size}
use Rattle.scheme.specs.Draw.{drawn}
use Rattle.scheme.proofs.Places.{offset-fits, key_fits}
use Rattle.scheme.proofs.EachBelow.{below-blocks}
use Rattle.scheme.proofs.Contributed.{Contributed, length_nth, nth_whole, offset-bytes, key-bytes}

-- ---- any part of K bytes, one of each party: where it is read is left open, so that offsets and keys go by the same laws

module _ (n size K : ℕ) (contributions : List ℕ) (long : length contributions ≡ n * size) (at : ℕ) (fits : at + K ≤ size) where
  each_length : (s : ℕ) → s < n → length (part (nth_piece contributions size s) at K) ≡ K
  each_length s h = length_part (nth_piece contributions size s) at K (omega (arith, length_nth n size contributions long s h))

  gathered_length : length (blocks n (λ s. part (nth_piece contributions size s) at K)) ≡ n * K
  gathered_length = length_blocks_same n K (λ s. part (nth_piece contributions size s) at K) each_length

  gathered_nth : (s : ℕ) → s < n → nth_piece (blocks n (λ t. part (nth_piece contributions size t) at K)) K s ≡ part (nth_piece contributions size s) at K
  gathered_nth s h = part_blocks_same n K (λ t. part (nth_piece contributions size t) at K) each_length s h

-- one party's alone
alone : (size K : ℕ) (c : List ℕ) → length c ≡ size → (at : ℕ) → blocks 1 (λ s. part (nth_piece c size s) at K) ≡ part c at K
unfolding blocks
alone size K c e at = ap (λ (l : List ℕ). part l at K) (nth_whole c size e)

module _ (n K : ℕ) (wires : List Wire) (contributions : List ℕ) (long : length contributions ≡ n * contribution_size K wires) where
  -- ---- offsets

  module _ (p : ℕ) (in_use : used wires p ≡ true) (byte : p < 256) where
    pub offset-length : length ((drawn n K wires contributions).offset p) ≡ n * K
    unfolding drawn
    offset-length = gathered_length n (contribution_size K wires) K contributions long (offset_at K wires p) (offset-fits K wires p in_use byte)

    -- a party's part of the offsets is what stands in its contribution
    pub offset_nth : (s : ℕ) → s < n → nth_piece ((drawn n K wires contributions).offset p) K s ≡ part (nth_piece contributions (contribution_size K wires) s) (offset_at K wires p) K
    unfolding drawn
    offset_nth s h = gathered_nth n (contribution_size K wires) K contributions long (offset_at K wires p) (offset-fits K wires p in_use byte) s h

    -- and what it draws by itself
    pub own-offset : (s : ℕ) → s < n → (drawn 1 K wires (nth_piece contributions (contribution_size K wires) s)).offset p ≡ nth_piece ((drawn n K wires contributions).offset p) K s
    unfolding drawn
    own-offset s h =
        alone (contribution_size K wires) K (nth_piece contributions (contribution_size K wires) s) (length_nth n (contribution_size K wires) contributions long s h) (offset_at K wires p)
        ∙ sym (offset_nth s h)

  -- ---- keys

  module _ (w j : ℕ) (wire : w < length wires) (inside : j < record_keys_of wires w) where
    pub key-length : length ((drawn n K wires contributions).key w j) ≡ n * K
    unfolding drawn
    key-length = gathered_length n (contribution_size K wires) K contributions long (key_at K wires w j) (key_fits K wires w j inside wire)

    pub key_nth : (s : ℕ) → s < n → nth_piece ((drawn n K wires contributions).key w j) K s ≡ part (nth_piece contributions (contribution_size K wires) s) (key_at K wires w j) K
    unfolding drawn
    key_nth s h = gathered_nth n (contribution_size K wires) K contributions long (key_at K wires w j) (key_fits K wires w j inside wire) s h

    pub own_key : (s : ℕ) → s < n → (drawn 1 K wires (nth_piece contributions (contribution_size K wires) s)).key w j ≡ nth_piece ((drawn n K wires contributions).key w j) K s
    unfolding drawn
    own_key s h =
        alone (contribution_size K wires) K (nth_piece contributions (contribution_size K wires) s) (length_nth n (contribution_size K wires) contributions long s h) (key_at K wires w j)
        ∙ sym (key_nth s h)

-- ---- residues

module _ {n K : ℕ} {wires : List Wire} {contributions : List ℕ} (r : Contributed n K wires contributions) where
  pub offset-below : (p : ℕ) → used wires p ≡ true → p < 256 → AllBelow p ((drawn n K wires contributions).offset p)
  unfolding drawn
  offset-below p in_use byte =
      below-blocks p n (λ s. part (nth_piece contributions (contribution_size K wires) s) (offset_at K wires p) K)
      (λ s h. offset-bytes K wires (nth_piece contributions (contribution_size K wires) s) (r.party s h)
      (length_nth n (contribution_size K wires) contributions r.size s h) p in_use byte)

  pub key_below : (w j : ℕ) → w < length wires → j < record_keys_of wires w → AllBelow (modulus_at wires w) ((drawn n K wires contributions).key w j)
  unfolding drawn
  key_below w j made inside =
      below-blocks (modulus_at wires w) n (λ s. part (nth_piece contributions (contribution_size K wires) s) (key_at K wires w j) K)
      (λ s h. key-bytes K wires (nth_piece contributions (contribution_size K wires) s) (r.party s h)
      (length_nth n (contribution_size K wires) contributions r.size s h) w j made inside)

-- masks are sums modulo the wire's prime, whatever was contributed
pub mask_below : (n K : ℕ) (wires : List Wire) (contributions : List ℕ) (w j : ℕ) → 0 < modulus_at wires w → (drawn n K wires contributions).mask w j < modulus_at wires w
unfolding drawn
mask_below n K wires contributions w j positive = mod-lt _ positive
