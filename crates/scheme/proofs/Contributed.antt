-- Contributions that have their length and their bytes below their moduli: what that says of each party's offsets and keys.
-- Assumes nothing.
use mathlib.Core.Path.{◌≡◌, sym, ap, ◌∙◌}
use mathlib.Core.Bool.{true}
use mathlib.Core.List.{List}
use Prim.Native.Nat.{ℕ, ◌+◌, ◌*◌, ◌<◌}
use native.Mathlib.Nat.{zero-mul, one-mul}
use native.Mathlib.Omega.{arith}
use lib.ListN.{length}
use Rattle.lists.specs.Blocks.{part, nth_piece}
use Rattle.lists.proofs.Parts.{length_part, part-whole}
use Rattle.lists.proofs.Sums.{times-fits}
use Rattle.residue.specs.Vector.{AllBelow}
use Rattle.words.specs.declared.gate.Wire.{Wire}
use Rattle.circuit.specs.Wires.{modulus_at}
use Rattle.counts.specs.Counts.{record_keys_of}
use Rattle.counts.specs.Moduli.{used}
use Rattle.scheme.specs.Contribution.{offset_at, key_at, contribution_size, contribution_moduli}
use Rattle.scheme.proofs.Places.{offset-fits, key_fits}
use Rattle.scheme.proofs.ByteModuli.{offset-modulus, key-modulus}
use Rattle.scheme.proofs.EachBelow.{EachBelow, below-part}

-- n contributions, one after another, each as long as it must be and with its bytes below their moduli
pub record Contributed (n K : ℕ) (wires : List Wire) (contributions : List ℕ) : Type 0 where
  pub size : length contributions ≡ n * contribution_size K wires
  pub party : (s : ℕ) → s < n → EachBelow (nth_piece contributions (contribution_size K wires) s) (contribution_moduli K wires)

pub length_nth : (n s : ℕ) (xs : List ℕ) → length xs ≡ n * s → (i : ℕ) → i < n → length (nth_piece xs s i) ≡ s
length_nth n s xs e i h = length_part xs (i * s) s (omega (arith, times-fits i n s h))

-- a single part is the whole
pub nth_whole : (xs : List ℕ) (s : ℕ) → length xs ≡ s → nth_piece xs s 0 ≡ xs
nth_whole xs s e = ap (λ (at : ℕ). part xs at s) (zero-mul s) ∙ part-whole xs s (omega arith)

-- ---- one party's contribution

module _ (K : ℕ) (wires : List Wire) (c : List ℕ) (u : EachBelow c (contribution_moduli K wires)) (e : length c ≡ contribution_size K wires) where
  pub offset-bytes : (p : ℕ) → used wires p ≡ true → p < 256 → AllBelow p (part c (offset_at K wires p) K)
  offset-bytes p t h =
      let fits = offset-fits K wires p t h in
      below-part p c (offset_at K wires p) K (omega arith)
      (λ i l. rw (offset-modulus K wires p i 0 t h l) at (u.entry (offset_at K wires p + i) (omega arith)))

  pub key-bytes : (w j : ℕ) → w < length wires → j < record_keys_of wires w → AllBelow (modulus_at wires w) (part c (key_at K wires w j) K)
  key-bytes w j made h =
      let fits = key_fits K wires w j h made in
      below-part (modulus_at wires w) c (key_at K wires w j) K (omega arith)
      (λ i l. rw (key-modulus K wires w j i 0 made h l) at (u.entry (key_at K wires w j + i) (omega arith)))

-- a party's contribution is one by itself
pub contributed_own : {n K : ℕ} {wires : List Wire} {contributions : List ℕ} → Contributed n K wires contributions → (s : ℕ) → s < n
    → Contributed 1 K wires (nth_piece contributions (contribution_size K wires) s)
contributed_own {n} {K} {wires} {contributions} r s h =
    let c : List ℕ = nth_piece contributions (contribution_size K wires) s in
    let long : length c ≡ contribution_size K wires = length_nth n (contribution_size K wires) contributions r.size s h in
    record {
      size = long ∙ sym (one-mul (contribution_size K wires));
      party = λ i l. (
          let z : i ≡ 0 = omega arith in
          rw (z, nth_whole c (contribution_size K wires) long) (r.party s h));
    }
