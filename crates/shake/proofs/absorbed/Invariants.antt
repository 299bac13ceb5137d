-- `shake::absorbed` meets its contract. The loop's invariant: what is left of the field, taken into the sponge as it is, comes to the same as the whole field at the start.
-- Assumes nothing.
use Rattle.shake.specs.Stream.{with_field}
use lib.ListN.{length, drop}
use mathlib.Core.Path.{◌≡◌}
use Prim.Native.Nat.{◌<◌}
use Rattle.shake.proofs.absorbed.Given as goal

abbrev pub invariant-loop-byte : goal.invariant-loop-byte
invariant-loop-byte l = (l.at < 136) × (length l.lanes ≡ 25) × (with_field (record { lanes = l.lanes; at = l.at }) (drop l.byte-index l.field) ≡ with_field (record { lanes = l.initial.lanes; at = l.initial.at }) l.field)
