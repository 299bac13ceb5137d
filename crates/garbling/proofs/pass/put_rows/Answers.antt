use mathlib.Core.Path.{refl, sym}
use native.Mathlib.Omega.{arith}
use Rattle.lists.proofs.Steps.{steps_fits, steps_long, steps_call}
use Rattle.session.proofs.Circuits.{made-is}
use Rattle.garbling.proofs.Looked.{ranks_long, moduli-long, record-past, record-inside}
use Rattle.contribution.proofs.Sizes.{vector-fits}
use Rattle.garbling.proofs.Garbled.{pass_start, pass_done, turn-size, turn-ready, turn-rows}
use Rattle.garbling.proofs.pass.put_rows.Goals as goal

pub moduli-moduli-requires : goal.moduli-moduli-requires
moduli-moduli-requires c = c.requires.contributed.held.room

pub ranks-ranks-requires : goal.ranks-ranks-requires
ranks-ranks-requires c = c.requires.contributed.held.room

pub overflow_mul-bytes : goal.overflow_mul-bytes
overflow_mul-bytes c = omega (arith, vector-fits c.requires.contributed.sizes)

pub first_record-at-requires : goal.first_record-at-requires
first_record-at-requires c = (c.requires.contributed.held.room, c.requires.contributed.sizes.short)

pub loop-w-init : goal.loop-w-init
loop-w-init c = (c.first_record-at.ensures, pass_start c.requires.contributed c.args.session.round c.requires.rows_len)

pub slice_bounds-sources-end-2 : goal.slice_bounds-sources-end-2
slice_bounds-sources-end-2 c = sym (moduli-long c.requires.contributed c.requires.zero_keys.0 c.requires.zero_keys.1 c.ranks-ranks.ensures c.moduli-moduli.ensures)

pub row_bytes-requires : goal.row_bytes-requires
row_bytes-requires c = omega (arith, vector-fits c.requires.contributed.sizes)

pub overflow_add-to : goal.overflow_add-to
overflow_add-to c = let d = c.requires.contributed in
    omega (arith, c.loop-w.invariant.1.kept, c.well_formed, steps_fits c.loop-w.invariant.1 (omega (arith, made-is d.held)), turn-size d c.requires.zero_keys.0 c.requires.zero_keys.1 c.ranks-ranks.ensures c.moduli-moduli.ensures c.loop-w-test.true c.loop-w.invariant.0 c.row_bytes.ensures refl)

pub slice_bounds-sources-end : goal.slice_bounds-sources-end
slice_bounds-sources-end c = sym (ranks_long c.requires.contributed c.ranks-ranks.ensures)

pub slice_bounds-gate_rows-end : goal.slice_bounds-gate_rows-end
slice_bounds-gate_rows-end c = let d = c.requires.contributed in
    omega (arith, steps_fits c.loop-w.invariant.1 (omega (arith, made-is d.held)), turn-size d c.requires.zero_keys.0 c.requires.zero_keys.1 c.ranks-ranks.ensures c.moduli-moduli.ensures c.loop-w-test.true c.loop-w.invariant.0 c.row_bytes.ensures refl)

pub gate_rows-requires : goal.gate_rows-requires
gate_rows-requires c = let d = c.requires.contributed in
    let t = turn-size d c.requires.zero_keys.0 c.requires.zero_keys.1 c.ranks-ranks.ensures c.moduli-moduli.ensures c.loop-w-test.true c.loop-w.invariant.0 c.row_bytes.ensures refl in
    turn-ready d c.requires.zero_keys.0 c.requires.zero_keys.1 c.ranks-ranks.ensures c.moduli-moduli.ensures c.loop-w-test.true c.loop-w.invariant.0 c.row_bytes.ensures refl
    c.args.session.round c.loop-w.w c.record_count.result refl c.record_count.ensures c.recipe_of.ensures
    (steps_long c.loop-w.invariant.1 (omega (arith, made-is d.held)) (omega (arith, t)))

pub record_size-at-requires : goal.record_size-at-requires
record_size-at-requires c = c.requires.contributed.sizes.short

pub overflow_add-at : goal.overflow_add-at
overflow_add-at c = omega (arith, record-inside c.requires.contributed c.requires.zero_keys.0 c.requires.zero_keys.1 c.ranks-ranks.ensures c.moduli-moduli.ensures c.loop-w-test.true c.loop-w.invariant.0 c.record_size-at.ensures, c.ranges.size.fits)

pub loop-w-preserved : goal.loop-w-preserved
loop-w-preserved c = let d = c.requires.contributed in
    let t = turn-size d c.requires.zero_keys.0 c.requires.zero_keys.1 c.ranks-ranks.ensures c.moduli-moduli.ensures c.loop-w-test.true c.loop-w.invariant.0 c.row_bytes.ensures refl in (
      record-past d c.requires.zero_keys.0 c.requires.zero_keys.1 c.ranks-ranks.ensures c.moduli-moduli.ensures c.loop-w-test.true c.loop-w.invariant.0 c.record_size-at.ensures,
      steps_call c.loop-w.invariant.1 (omega (arith, made-is d.held)) (omega (arith, t)) c.gate_rows.auto.out
          (turn-rows d c.requires.zero_keys.0 c.requires.zero_keys.1 c.ranks-ranks.ensures c.moduli-moduli.ensures c.loop-w-test.true c.loop-w.invariant.0 c.row_bytes.ensures refl
          c.args.session.round c.loop-w.w c.record_count.result refl c.record_count.ensures c.recipe_of.ensures c.gate_rows.ensures),
    )

pub returns : goal.returns
returns c = pass_done c.requires.contributed c.args.session.round c.loop-w.invariant.1 (omega (arith, c.loop-w-test.false, made-is c.requires.contributed.held)) c.requires.rows_len
