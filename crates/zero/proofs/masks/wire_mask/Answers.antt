-- `zero::masks::wire_mask` meets its contract: each arm knows the recipe, so what it reads and what it makes.
-- Assumes nothing.
use lib.ListN.{get_or}
use Rattle.scheme.specs.Zero.{mask_by}
use Rattle.zero.specs.Turn.{mask_at}
use Rattle.zero.proofs.Turns.{mask-made, mask-drawn, choice_mask_made}
use Rattle.zero.proofs.masks.wire_mask.Goals as goal

pub returns-in-Entered : goal.returns-in-Entered
unfolding mask_at mask_by
returns-in-Entered c = let a = c.args in
    mask-drawn (mask_at a.drawn.n a.drawn.size a.drawn.contributions.now a.wire.modulus a.at) a.wire.modulus (λ i. get_or a.masks.now i 0) c.in-Entered.is c.recipe_of.ensures c.share_sum.ensures

pub returns-in-Sum : goal.returns-in-Sum
unfolding mask_at mask_by
returns-in-Sum c = let a = c.args in
    mask-made (mask_at a.drawn.n a.drawn.size a.drawn.contributions.now a.wire.modulus a.at) a.wire.modulus (λ i. get_or a.masks.now i 0) c.in-Sum.ensures c.sum.ensures

pub returns-in-Multiple : goal.returns-in-Multiple
unfolding mask_at mask_by
returns-in-Multiple c = let a = c.args in
    mask-made (mask_at a.drawn.n a.drawn.size a.drawn.contributions.now a.wire.modulus a.at) a.wire.modulus (λ i. get_or a.masks.now i 0) c.in-Multiple.ensures c.scaled.ensures

pub returns-in-Choice : goal.returns-in-Choice
unfolding mask_at mask_by
returns-in-Choice c = let a = c.args in
    choice_mask_made (mask_at a.drawn.n a.drawn.size a.drawn.contributions.now a.wire.modulus a.at) a.wire.modulus (λ i. get_or a.masks.now i 0) c.in-Choice.ensures c.with_first.ensures c.share_sum-in-Choice.ensures
