-- `rows::gates::second_rows` meets its contract: a component with factors minus beta.
-- Assumes nothing.
use mathlib.Core.Path.{sym, ◌∙◌}
use native.Mathlib.Omega.{arith}
use Rattle.scheme.specs.Message.{product_message₁}
use Rattle.rows.specs.Made.{held_in}
use Rattle.rows.proofs.Sizes.{small, cut_long}
use Rattle.rows.proofs.Messages.{component_is, second_is}
use Rattle.rows.proofs.gates.second_rows.Goals as goal

pub returns : goal.returns
returns c = let a = c.args in
    let s = small c.requires.room_for.0.sizes in
    let width = sym c.requires.room_for.1.size in
    component_is c.row.ensures _ _ _ _ (λ β. product_message₁ a.made.modulus a.offset.now (held_in a.made a.second).key a.second.mask (held_in a.made a.a).key a.a.mask β) c.linear_factors.ensures (λ β. second_is (omega (arith, c.requires.room_for.0.modulus)) a.offset.now _ _ _ _ β (cut_long a.second.key c.requires.operand.1.1.long s ∙ width) (cut_long a.a.key c.requires.operand.0.long s ∙ width) c.masked-base.ensures.1 c.masked-given.ensures.1) c.component_rows.ensures
