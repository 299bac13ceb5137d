-- `zero::zero::put_zero_key` meets its contract: each arm knows the recipe, so what it reads and what it makes.
-- Assumes nothing.
use mathlib.Core.Path.{◌∙◌}
use Prim.Native.Nat.{◌*◌}
use Rattle.lists.specs.Blocks.{nth_piece}
use Rattle.scheme.specs.Zero.{zero_key_by}
use Rattle.zero.specs.Turn.{keys_at}
use Rattle.zero.proofs.Turns.{key-drawn, sum_made, multiple_made, choice-made}
use Rattle.zero.proofs.zero.put_zero_key.Goals as goal

pub returns-in-Entered : goal.returns-in-Entered
unfolding zero_key_by keys_at
returns-in-Entered c = let a = c.args in
    key-drawn (keys_at a.drawn.n a.drawn.k a.drawn.size a.drawn.contributions.now a.at) a.wire.modulus (λ i. nth_piece a.keys.now (a.drawn.n * a.drawn.k) i) c.in-Entered.is c.recipe_of.ensures c.gather.ensures

pub returns-in-Sum : goal.returns-in-Sum
unfolding zero_key_by keys_at
returns-in-Sum c = let a = c.args in
    sum_made (keys_at a.drawn.n a.drawn.k a.drawn.size a.drawn.contributions.now a.at) a.wire.modulus a.keys.now c.requires.out_len c.in-Sum.ensures c.sum.ensures

pub returns-in-Multiple : goal.returns-in-Multiple
unfolding zero_key_by keys_at
returns-in-Multiple c = let a = c.args in
    multiple_made (keys_at a.drawn.n a.drawn.k a.drawn.size a.drawn.contributions.now a.at) a.wire.modulus a.keys.now c.requires.out_len c.in-Multiple.ensures c.multiple.ensures

pub returns-in-Choice : goal.returns-in-Choice
unfolding zero_key_by keys_at
returns-in-Choice c = let a = c.args in
    choice-made (keys_at a.drawn.n a.drawn.k a.drawn.size a.drawn.contributions.now a.at) a.wire.modulus a.keys.now (c.gather-in-Choice.auto.out ∙ c.requires.out_len) c.in-Choice.ensures c.add_first.ensures c.gather-in-Choice.ensures
