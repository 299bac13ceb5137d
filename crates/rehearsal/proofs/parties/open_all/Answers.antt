-- `rehearsal::open_all` meets its contract: each party's two parts are lent to its call. Assumes nothing.
use Prim.Native.Nat.{◌-◌}
use native.Mathlib.Omega.{arith}
use Rattle.lists.proofs.Steps.{steps_fits}
use Rattle.rehearsal.proofs.Turns.{OpenTo, open_start, open_next, open_reads, open_all}
use Rattle.rehearsal.proofs.parties.open_all.Goals as goal

pub loop-party-init : goal.loop-party-init
loop-party-init c = open_start c.requires.1.0 c.requires.1.1.0

pub overflow_add-past : goal.overflow_add-past
overflow_add-past c = omega (arith, open_reads c.loop-party.invariant c.loop-party-test.true c.requires.0)

pub piece-contribution-requires : goal.piece-contribution-requires
piece-contribution-requires c = open_reads c.loop-party.invariant c.loop-party-test.true c.requires.0

pub overflow_add-to : goal.overflow_add-to
overflow_add-to c = omega (arith, steps_fits c.loop-party.invariant.keys_level c.loop-party-test.true)

pub overflow_add-end : goal.overflow_add-end
overflow_add-end c = omega (arith, steps_fits c.loop-party.invariant.exts_level c.loop-party-test.true)

pub slice_bounds-lupiknam_open-end : goal.slice_bounds-lupiknam_open-end
slice_bounds-lupiknam_open-end c = omega (arith, steps_fits c.loop-party.invariant.keys_level c.loop-party-test.true)

pub slice_bounds-lupiknam_open-end-in-loop-party : goal.slice_bounds-lupiknam_open-end-in-loop-party
slice_bounds-lupiknam_open-end-in-loop-party c = omega (arith, steps_fits c.loop-party.invariant.exts_level c.loop-party-test.true)

pub overflow_add-party : goal.overflow_add-party
overflow_add-party c = omega (arith, c.loop-party-test.true, c.requires.1.1.1)

pub loop-party-preserved : goal.loop-party-preserved
loop-party-preserved c = open_next c.loop-party.invariant c.loop-party-test.true c.piece-contribution.ensures.0 c.lupiknam_open-answer.auto.wire_keys c.lupiknam_open-answer.auto.wire_externals c.lupiknam_open-answer.ensures

pub shape_of-wkeys : goal.shape_of-wkeys
shape_of-wkeys c = c.loop-party.invariant.keys_level.kept

pub shape_of-wexternals : goal.shape_of-wexternals
shape_of-wexternals c = c.loop-party.invariant.exts_level.kept

pub returns : goal.returns
returns c = open_all c.loop-party.invariant c.loop-party-test.false
