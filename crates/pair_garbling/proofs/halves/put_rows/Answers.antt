-- `pair_garbling::halves::put_rows` meets its contract: one row after another, each under the key that is one offset further.
-- Assumes nothing.
use mathlib.Core.Path.{refl, ◌∙◌}
use Prim.Native.Nat.{◌-◌}
use native.Mathlib.Omega.{arith}
use lib.ListN.{drop, length-take, length-drop}
use Rattle.lists.proofs.Steps.{level_start, level_whole, steps_fits, steps_call}
use Rattle.pair_garbling.specs.Halves.{rows_under}
use Rattle.pair_garbling.proofs.Made.{stepping_start, stepping_on, offset_aligned, row_asked, row_under_lem, factor_turn}
use Rattle.pair_garbling.proofs.halves.put_rows.Goals as goal

pub loop-factor-init : goal.loop-factor-init
loop-factor-init c = (stepping_start c.requires.fits.0 c.requires.fits.1.work c.requires.fits.1.offset, level_start (omega (arith, c.requires.out_len)))

pub overflow_add-to : goal.overflow_add-to
overflow_add-to c = omega (arith, steps_fits c.loop-factor.invariant.1 (factor_turn c.args.factors c.from.ensures c.loop-factor-test.true))

pub add_multiple-requires : goal.add_multiple-requires
add_multiple-requires c = offset_aligned c.requires.fits.0 c.requires.fits.1.work c.requires.fits.1.offset c.loop-factor.invariant.0

pub slice_bounds-put_row-start : goal.slice_bounds-put_row-start
slice_bounds-put_row-start c = omega (arith, steps_fits c.loop-factor.invariant.1 (factor_turn c.args.factors c.from.ensures c.loop-factor-test.true))

pub slice_bounds-put_row-end : goal.slice_bounds-put_row-end
slice_bounds-put_row-end c = omega (arith, steps_fits c.loop-factor.invariant.1 (factor_turn c.args.factors c.from.ensures c.loop-factor-test.true))

pub put_row-requires : goal.put_row-requires
put_row-requires c =
    let p = row_asked c.requires.fits.0 c.requires.fits.1 c.loop-factor.invariant.1 (factor_turn c.args.factors c.from.ensures c.loop-factor-test.true) c.loop-factor.invariant.0 c.add_multiple.auto.out in
    record { room = p.0; vector = p.1 }

pub loop-factor-preserved : goal.loop-factor-preserved
loop-factor-preserved c =
    let h = factor_turn c.args.factors c.from.ensures c.loop-factor-test.true in (
      stepping_on c.requires.fits.0 c.requires.fits.1.work c.requires.fits.1.offset c.loop-factor.invariant.0 c.add_multiple.ensures c.add_multiple.auto.out,
      steps_call c.loop-factor.invariant.1 h refl c.put_row.auto.out
          (row_under_lem c.args.half.at c.args.key.now c.args.factors c.args.half.vector.now c.loop-factor.factor-index (c.from.result - 1) (omega (arith, h, c.from.ensures)) (rw c.bound.ensures at c.put_row.ensures) (c.add_multiple.ensures ∙ c.loop-factor.invariant.0.next)),
    )

pub returns : goal.returns
unfolding rows_under
returns c = level_whole c.loop-factor.invariant.1
    (omega (arith, c.loop-factor-test.false, c.from.ensures, length-take (c.from.result - 1) (drop 1 c.args.factors), length-drop 1 c.args.factors)) c.requires.out_len
