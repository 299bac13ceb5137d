-- `pads::remainder::remainder` meets its contract: the quotient is exact.
-- Assumes nothing.
use Prim.Native.Nat.{◌<◌}
use native.Mathlib.Nat.{mod-lt}
use native.Mathlib.Omega.{arith}
use Rattle.pads.proofs.Folded.{quotient_low, rest_is}
use Rattle.pads.proofs.remainder.remainder.Goals as goal

pub overflow_sub-result : goal.overflow_sub-result
overflow_sub-result c = let byte : c.args.f.modulus < 256 = omega (arith, c.well_formed) in
    rw c.from.ensures (quotient_low _ _ _ c.args.f.above_one byte c.args.f.reciprocal_is c.requires)

pub overflow_cast-result : goal.overflow_cast-result
overflow_cast-result c = let byte : c.args.f.modulus < 256 = omega (arith, c.well_formed) in
    let above : 0 < c.args.f.modulus = omega (arith, c.args.f.above_one) in
    rw c.from.ensures (record { fits = omega (arith, rest_is _ _ _ c.args.f.above_one byte c.args.f.reciprocal_is c.requires, mod-lt c.args.z above) })

pub returns : goal.returns
returns c = let byte : c.args.f.modulus < 256 = omega (arith, c.well_formed) in
    rw c.from.ensures (rest_is _ _ _ c.args.f.above_one byte c.args.f.reciprocal_is c.requires)
