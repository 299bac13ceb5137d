-- Where offsets, records, keys and mask shares lie: all inside the contribution, offsets before records, each record's keys before its shares.
-- Assumes nothing.
use mathlib.Core.Path.{◌≡◌}
use mathlib.Core.Bool.{true}
use mathlib.Core.List.{List}
use Prim.Native.Nat.{ℕ, ◌+◌, ◌*◌, ◌≤◌, ◌<◌}
use native.Mathlib.Nat.{mul-add, add-mul, mul-le-mul_left, le_trans}
use native.Mathlib.Omega.{arith}
use lib.ListN.{length}
use Rattle.lists.specs.Blocks.{sum_to}
use Rattle.lists.proofs.Sums.{sum_to-fits}
use Rattle.words.specs.declared.gate.Wire.{Wire}
use Rattle.counts.specs.Counts.{record_keys_of, record_keys_in}
use Rattle.counts.specs.Moduli.{used, used_below}
use Rattle.scheme.specs.Contribution.{offset_at, record_at, key_at, share_at, contribution_size}
use Rattle.scheme.proofs.Used.{used_below_past}

module _ (K : ℕ) (wires : List Wire) where
  -- ---- offsets

  -- an offset ends where a later one may start
  pub offset_past : (p q : ℕ) → used wires p ≡ true → p < q → offset_at K wires p + K ≤ offset_at K wires q
  unfolding offset_at
  offset_past p q e h =
      le_trans (omega (arith, mul-add K (used_below wires p) 1)) (mul-le-mul_left K (used_below_past wires p q e h))

  pub offset-fits : (p : ℕ) → used wires p ≡ true → p < 256 → offset_at K wires p + K ≤ contribution_size K wires
  unfolding offset_at contribution_size
  offset-fits p e h = omega (arith, offset_past p 256 e h)

  -- ---- records

  pub record_fits : (w : ℕ) → w < length wires → record_at K wires w + (K + 1) * record_keys_of wires w ≤ contribution_size K wires
  unfolding record_at contribution_size
  record_fits w h =
      let most : (K + 1) * (sum_to w (record_keys_of wires) + record_keys_of wires w) ≤ (K + 1) * record_keys_in wires =
      mul-le-mul_left (K + 1) (sum_to-fits w (length wires) (record_keys_of wires) h) in
      omega (arith, mul-add (K + 1) (sum_to w (record_keys_of wires)) (record_keys_of wires w))

  -- within a record of m keys: key j of them ends before the shares, and share j is inside
  pub key-inside : (m j : ℕ) → j < m → K * j + K ≤ (K + 1) * m
  key-inside m j h =
      let most : K * (j + 1) ≤ K * m = mul-le-mul_left K (omega arith) in
      omega (arith, mul-add K j 1, add-mul K 1 m)

  share_inside : (m j : ℕ) → j < m → K * m + j < (K + 1) * m
  share_inside m j h = omega (arith, add-mul K 1 m)

  module _ (w j : ℕ) (h : j < record_keys_of wires w) where
    key_in_record : key_at K wires w j + K ≤ record_at K wires w + (K + 1) * record_keys_of wires w
    unfolding key_at
    key_in_record = omega (arith, key-inside (record_keys_of wires w) j h)

    share_in_record : share_at K wires w j < record_at K wires w + (K + 1) * record_keys_of wires w
    unfolding share_at
    share_in_record = omega (arith, share_inside (record_keys_of wires w) j h)

    pub key_fits : w < length wires → key_at K wires w j + K ≤ contribution_size K wires
    key_fits l = le_trans key_in_record (record_fits w l)

    pub share_fits : w < length wires → share_at K wires w j < contribution_size K wires
    share_fits l = le_trans share_in_record (record_fits w l)
