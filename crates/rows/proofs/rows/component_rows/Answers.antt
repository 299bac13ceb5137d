-- `rows::rows::component_rows` meets its contract: one row after another.
-- Assumes nothing.
use mathlib.Core.Path.{ap, ◌∙◌}
use Prim.Native.Nat.{ℕ}
use native.Mathlib.Omega.{arith}
use lib.ListN.{get_or}
use Rattle.lists.proofs.Steps.{level_start, level_whole}
use Rattle.residue.specs.Vector.{key_v}
use Rattle.rows.specs.Made.{row_of}
use Rattle.rows.proofs.Sizes.{small}
use Rattle.rows.proofs.Rowwise.{next_fits, next_row}
use Rattle.rows.proofs.rows.component_rows.Goals as goal

pub loop-alpha-init : goal.loop-alpha-init
loop-alpha-init c = level_start (omega (arith, c.requires.room.size))

pub slice_bounds-work-end : goal.slice_bounds-work-end
slice_bounds-work-end c = omega (arith, c.from.array_long, c.requires.four.zero.size, small c.requires.room.sizes)

pub slice_bounds-put_keyed_row-end-in-loop-alpha : goal.slice_bounds-put_keyed_row-end-in-loop-alpha
slice_bounds-put_keyed_row-end-in-loop-alpha c = omega (arith, next_fits c.requires.four.zero c.loop-alpha.invariant c.loop-alpha-test.true)

pub loop-alpha-preserved : goal.loop-alpha-preserved
loop-alpha-preserved c = let a = c.args in
    next_row c.requires.four.zero c.loop-alpha.invariant c.loop-alpha-test.true c.put_keyed_row.auto.out (c.put_keyed_row.ensures ∙ ap (λ (i : ℕ). row_of a.row (key_v a.row.bound.modulus a.keys.base.now c.loop-alpha.alpha a.keys.step.now) (key_v a.row.q a.messages.base.now (get_or a.factors i 0) a.messages.step.now)) c.from.ensures)

pub returns : goal.returns
returns c = level_whole c.loop-alpha.invariant c.loop-alpha-test.false c.requires.room.size
