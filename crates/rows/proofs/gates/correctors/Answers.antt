-- `rows::gates::correctors` meets its contract: two components, one behind the other.
-- Assumes nothing.
use Prim.Native.Nat.{◌/◌}
use native.Mathlib.Omega.{arith}
use lib.ListN.{length}
use Rattle.rows.proofs.Sizes.{twice, half_of, front-rows, rest-rows, both_parts}
use Rattle.rows.proofs.Messages.{mul_small, add_small, sub_small, correct₀-is, correct₁-is}
use Rattle.rows.proofs.gates.correctors.Goals as goal

pub sub-start0-requires : goal.sub-start0-requires
sub-start0-requires c = (c.requires.operand.1.0.below, mul_small _ _ (omega (arith, c.requires.room_for.0.modulus)) c.mul-shift.ensures)

pub linear_rows-requires-clause-room_for : goal.linear_rows-requires-clause-room_for
linear_rows-requires-clause-room_for c = let p = c.args.made.modulus in
    (front-rows p p (length c.args.out.now / 2) (twice p c.requires.room_for.0) (half_of p c.requires.room_for.0), (sub_small _ _ (omega (arith, c.requires.room_for.0.modulus)) c.sub-start0.ensures, c.requires.room_for.1.0))

pub add-start1-requires : goal.add-start1-requires
add-start1-requires c = (c.requires.operand.1.1.below, mul_small _ _ (omega (arith, c.requires.room_for.0.modulus)) c.mul-shift.ensures)

pub linear_rows-requires-2-clause-room_for : goal.linear_rows-requires-2-clause-room_for
linear_rows-requires-2-clause-room_for c = let p = c.args.made.modulus in
    (rest-rows p p (length c.args.out.now / 2) (twice p c.requires.room_for.0) (half_of p c.requires.room_for.0) c.linear_rows.new.out c.linear_rows.auto.out, (add_small _ _ (omega (arith, c.requires.room_for.0.modulus)) c.add-start1.ensures, c.requires.room_for.1.0))

pub returns : goal.returns
returns c = let p = c.args.made.modulus in
    both_parts p p (length c.args.out.now / 2) (twice p c.requires.room_for.0) (half_of p c.requires.room_for.0) c.linear_rows.new.out c.linear_rows.auto.out (correct₀-is _ _ _ _ _ _ _ (omega (arith, c.requires.room_for.0.modulus)) c.mul-shift.ensures c.sub-start0.ensures c.linear_rows.ensures) c.linear_rows-2.auto.out (correct₁-is _ _ _ _ _ _ _ (omega (arith, c.requires.room_for.0.modulus)) c.mul-shift.ensures c.add-start1.ensures c.sub-step.ensures c.linear_rows-2.ensures)
