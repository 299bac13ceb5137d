-- `rehearsal::decode_all` meets its contract: each party's part is lent to its call. Assumes nothing.
use Prim.Native.Nat.{◌-◌}
use native.Mathlib.Omega.{arith}
use Rattle.lists.proofs.Steps.{steps_fits}
use Rattle.rehearsal.proofs.Turns.{DecodeTo, decode_start, decode-next, decode-reads, sheet-reads, decode-all}
use Rattle.rehearsal.proofs.parties.decode_all.Goals as goal

pub loop-party-init : goal.loop-party-init
loop-party-init c = decode_start c.requires.1.1

pub piece-external-requires : goal.piece-external-requires
piece-external-requires c = decode-reads c.loop-party.invariant c.loop-party-test.true c.requires.0

pub piece-sheet-requires : goal.piece-sheet-requires
piece-sheet-requires c = sheet-reads c.loop-party.invariant c.loop-party-test.true c.requires.1.0

pub overflow_add-to : goal.overflow_add-to
overflow_add-to c = omega (arith, steps_fits c.loop-party.invariant.level c.loop-party-test.true)

pub slice_bounds-lupiknam_decode-end : goal.slice_bounds-lupiknam_decode-end
slice_bounds-lupiknam_decode-end c = omega (arith, steps_fits c.loop-party.invariant.level c.loop-party-test.true)

pub overflow_add-from : goal.overflow_add-from
overflow_add-from c = omega (arith, decode-reads c.loop-party.invariant c.loop-party-test.true c.requires.0)

pub loop-party-preserved : goal.loop-party-preserved
loop-party-preserved c = decode-next c.loop-party.invariant c.loop-party-test.true c.piece-external.ensures.0 c.piece-sheet.ensures.0 c.lupiknam_decode-answer.auto.outputs c.lupiknam_decode-answer.ensures

pub shape_of-results : goal.shape_of-results
shape_of-results c = c.loop-party.invariant.level.kept

pub returns : goal.returns
returns c = decode-all c.loop-party.invariant c.loop-party-test.false
