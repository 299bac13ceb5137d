-- `pair_garbling::pass::put_wires` meets its contract: wire after wire, zero keys and rows in step.
-- Assumes nothing.
use mathlib.Core.Path.{refl, ap, ◌∙◌}
use Prim.Native.Nat.{ℕ, ◌*◌}
use native.Mathlib.Omega.{arith}
use Rattle.lists.proofs.Steps.{steps_fits, steps_long, steps_call}
use Rattle.contribution.proofs.Sizes.{times-most}
use Rattle.pair_garbling.proofs.Turning.{pass_start, pass_done, keys_fit, turn-bytes, sourced, keys_step, rows-here}
use Rattle.pair_garbling.proofs.pass.put_wires.Goals as goal

pub moduli-moduli-requires : goal.moduli-moduli-requires
moduli-moduli-requires c = c.requires.drawn.0.held.room

pub ranks-ranks-requires : goal.ranks-ranks-requires
ranks-ranks-requires c = c.requires.drawn.0.held.room

pub moduli_used-requires : goal.moduli_used-requires
moduli_used-requires c = c.requires.drawn.0.held.room

pub overflow_mul-first : goal.overflow_mul-first
overflow_mul-first c = omega (arith, times-most c.args.session.k c.moduli_used.result 128 256 c.requires.drawn.0.short c.moduli_used.ensures.most)

pub loop-w-init : goal.loop-w-init
loop-w-init c = pass_start c.requires.drawn.0 c.args.session.round c.requires.drawn.1 c.requires.rows_len

pub offset_bounds-circuit-w : goal.offset_bounds-circuit-w
offset_bounds-circuit-w c = omega (arith, c.requires.drawn.0.held.room.made, c.requires.drawn.0.held.room.wires, c.loop-w-test.true)

pub bounds-circuit-w : goal.bounds-circuit-w
bounds-circuit-w c = omega (arith, c.requires.drawn.0.held.room.made, c.requires.drawn.0.held.room.wires, c.loop-w-test.true)

pub rows_size-requires : goal.rows_size-requires
rows_size-requires c = c.requires.drawn.0.short

pub overflow_add-to : goal.overflow_add-to
overflow_add-to c = omega (arith, steps_fits c.loop-w.invariant.1 c.loop-w-test.true, turn-bytes c.requires.drawn.0 c.args.session.round c.ranks-ranks.ensures c.moduli-moduli.ensures c.loop-w-test.true c.rows_size.ensures)

pub overflow_add-turn : goal.overflow_add-turn
overflow_add-turn c = omega (arith, steps_fits c.loop-w.invariant.0 c.loop-w-test.true, c.loop-w.invariant.0.kept, c.requires.drawn.1, keys_fit c.requires.drawn.0 c.args.session.round, times-most c.args.session.k c.moduli_used.result 128 256 c.requires.drawn.0.short c.moduli_used.ensures.most)

pub slice_bounds-put_wire-start : goal.slice_bounds-put_wire-start
slice_bounds-put_wire-start c = omega (arith, steps_fits c.loop-w.invariant.1 c.loop-w-test.true, turn-bytes c.requires.drawn.0 c.args.session.round c.ranks-ranks.ensures c.moduli-moduli.ensures c.loop-w-test.true c.rows_size.ensures)

pub slice_bounds-put_wire-end : goal.slice_bounds-put_wire-end
slice_bounds-put_wire-end c = omega (arith, steps_fits c.loop-w.invariant.1 c.loop-w-test.true, turn-bytes c.requires.drawn.0 c.args.session.round c.ranks-ranks.ensures c.moduli-moduli.ensures c.loop-w-test.true c.rows_size.ensures)

pub put_wire-requires : goal.put_wire-requires
put_wire-requires c = let t = turn-bytes c.requires.drawn.0 c.args.session.round c.ranks-ranks.ensures c.moduli-moduli.ensures c.loop-w-test.true c.rows_size.ensures in record {
  sourced = sourced c.requires.drawn.0 c.args.session.round c.ranks-ranks.ensures c.moduli-moduli.ensures c.loop-w-test.true c.loop-w.invariant.0
      (ap (λ (n : ℕ). c.args.session.k * n) c.moduli_used.ensures.is) refl (steps_long c.loop-w.invariant.1 c.loop-w-test.true (omega (arith, t)));
  k_in_bounds = steps_fits c.loop-w.invariant.0 c.loop-w-test.true;
}

pub overflow_add-place : goal.overflow_add-place
overflow_add-place c = omega (arith, steps_fits c.loop-w.invariant.0 c.loop-w-test.true, c.loop-w.invariant.0.kept, c.requires.drawn.1, keys_fit c.requires.drawn.0 c.args.session.round)

pub loop-w-preserved : goal.loop-w-preserved
loop-w-preserved c = let t = turn-bytes c.requires.drawn.0 c.args.session.round c.ranks-ranks.ensures c.moduli-moduli.ensures c.loop-w-test.true c.rows_size.ensures in
    let ef = ap (λ (n : ℕ). c.args.session.k * n) c.moduli_used.ensures.is in (
      keys_step c.requires.drawn.0 c.args.session.round c.ranks-ranks.ensures c.moduli-moduli.ensures c.loop-w-test.true c.loop-w.invariant.0 ef refl c.put_wire.ensures.0,
      steps_call c.loop-w.invariant.1 c.loop-w-test.true (omega (arith, t)) c.put_wire.auto.rows
          (c.put_wire.ensures.1 ∙ rows-here c.requires.drawn.0 c.args.session.round c.ranks-ranks.ensures c.moduli-moduli.ensures c.loop-w-test.true c.loop-w.invariant.0 ef refl),
    )

pub shape_of-keys : goal.shape_of-keys
shape_of-keys c = c.loop-w.invariant.0.kept

pub shape_of-rows : goal.shape_of-rows
shape_of-rows c = c.loop-w.invariant.1.kept

pub returns : goal.returns
returns c = pass_done c.requires.drawn.0 c.args.session.round c.loop-w.invariant.0 c.loop-w.invariant.1 c.loop-w-test.false c.requires.drawn.1 c.requires.rows_len
