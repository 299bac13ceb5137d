-- `rehearsal::keys_of_all` meets its contract: each party's part is lent to its call. Assumes nothing.
use Prim.Native.Nat.{◌-◌}
use native.Mathlib.Omega.{arith}
use Rattle.lists.proofs.Steps.{steps_fits}
use Rattle.rehearsal.proofs.Turns.{KeysTo, keys_start, keys-next, keys-reads, keys-all}
use Rattle.rehearsal.proofs.parties.keys_of_all.Goals as goal

pub loop-party-init : goal.loop-party-init
loop-party-init c = keys_start c.requires.1

pub piece-contribution-requires : goal.piece-contribution-requires
piece-contribution-requires c = keys-reads c.loop-party.invariant c.loop-party-test.true c.requires.0

pub overflow_add-to : goal.overflow_add-to
overflow_add-to c = omega (arith, steps_fits c.loop-party.invariant.level c.loop-party-test.true)

pub slice_bounds-lupiknam_input_keys-end : goal.slice_bounds-lupiknam_input_keys-end
slice_bounds-lupiknam_input_keys-end c = omega (arith, steps_fits c.loop-party.invariant.level c.loop-party-test.true)

pub overflow_add-from : goal.overflow_add-from
overflow_add-from c = omega (arith, keys-reads c.loop-party.invariant c.loop-party-test.true c.requires.0)

pub loop-party-preserved : goal.loop-party-preserved
loop-party-preserved c = keys-next c.loop-party.invariant c.loop-party-test.true c.piece-contribution.ensures.0 c.lupiknam_input_keys-answer.auto.keys c.lupiknam_input_keys-answer.ensures

pub shape_of-mine : goal.shape_of-mine
shape_of-mine c = c.loop-party.invariant.level.kept

pub returns : goal.returns
returns c = keys-all c.loop-party.invariant c.loop-party-test.false
