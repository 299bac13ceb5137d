-- `rows::gates::product_rows` meets its contract: two components, one behind the other.
-- Assumes nothing.
use mathlib.Core.Path.{◌∙◌}
use Prim.Native.Nat.{◌/◌}
use native.Mathlib.Omega.{arith}
use lib.ListN.{length}
use Rattle.rows.proofs.Sizes.{twice, half_of, front-rows, both_parts}
use Rattle.rows.proofs.Messages.{mul_small, add_small, first_is, product_is}
use Rattle.rows.proofs.gates.product_rows.Goals as goal

pub add-start-requires : goal.add-start-requires
add-start-requires c = (mul_small _ _ (omega (arith, c.requires.room_for.0.modulus)) c.mul.ensures, c.requires.operand_2.1.below)

pub linear_rows-requires-clause-room_for : goal.linear_rows-requires-clause-room_for
linear_rows-requires-clause-room_for c = let p = c.args.made.modulus in
    (front-rows p p (length c.args.out.now / 2) (twice p c.requires.room_for.0) (half_of p c.requires.room_for.0), (add_small _ _ (omega (arith, c.requires.room_for.0.modulus)) c.add-start.ensures, c.requires.room_for.1))

pub returns : goal.returns
returns c = let p = c.args.made.modulus in
    both_parts p p (length c.args.out.now / 2) (twice p c.requires.room_for.0) (half_of p c.requires.room_for.0) c.linear_rows.new.out c.linear_rows.auto.out (first_is _ _ _ _ _ _ _ (omega (arith, c.requires.room_for.0.modulus)) c.mul.ensures c.add-start.ensures c.sub-step.ensures c.linear_rows.ensures) c.second_rows.auto.out c.second_rows.ensures
    ∙ product_is _ _ _ _ _ _ _ c.less-second.ensures.1
