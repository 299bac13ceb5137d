-- `rehearsal::put_keys_by_input` meets its contract: a loop over inputs, in it a loop over parties, each key copied to the next place. Assumes nothing.
use mathlib.Core.Path.{◌≡◌, refl, sym, ◌∙◌}
use Prim.Native.Nat.{◌-◌, ◌+◌, ◌*◌}
use native.Mathlib.Omega.{arith}
use Rattle.lists.specs.Blocks.{blocks, nth_piece}
use Rattle.lists.proofs.Sums.{times-fits, times-next}
use Rattle.lists.proofs.Steps.{Level, level_start, level_inner, level_nest, level_whole, steps_fits, steps_long, steps_call}
use Rattle.rehearsal.proofs.Interleaved.{key_fits, key-next, key-there}
use Rattle.rehearsal.proofs.hosts.put_keys_by_input.Goals as goal

pub loop-w-init : goal.loop-w-init
loop-w-init c = (omega arith, level_start (omega (arith, c.requires.1.1)))

pub loop-party-init : goal.loop-party-init
loop-party-init c = (omega (arith, c.loop-w.invariant.0), level_inner c.loop-w.invariant.1 c.loop-w-test.true refl)

pub overflow_add-past : goal.overflow_add-past
overflow_add-past c = let a = c.args in omega (arith, key-next a.inputs a.k a.each a.n c.loop-w.w c.loop-party.party c.loop-party.from a.mine.now c.requires.0 c.requires.1.0 c.loop-party.invariant.0 c.loop-w-test.true c.loop-party-test.true)

pub overflow_add-to : goal.overflow_add-to
overflow_add-to c = omega (arith, steps_fits c.loop-party.invariant.1 c.loop-party-test.true)

pub piece-key-requires : goal.piece-key-requires
piece-key-requires c = let a = c.args in key_fits a.inputs a.k a.each a.n c.loop-w.w c.loop-party.party c.loop-party.from a.mine.now c.requires.0 c.requires.1.0 c.loop-party.invariant.0 c.loop-w-test.true c.loop-party-test.true

pub slice_bounds-copy_from_slice-end : goal.slice_bounds-copy_from_slice-end
slice_bounds-copy_from_slice-end c = omega (arith, steps_fits c.loop-party.invariant.1 c.loop-party-test.true)

pub copy_from_slice-requires : goal.copy_from_slice-requires
copy_from_slice-requires c = steps_long c.loop-party.invariant.1 c.loop-party-test.true refl ∙ sym c.piece-key.ensures.1

pub loop-party-preserved : goal.loop-party-preserved
loop-party-preserved c = let a = c.args in (omega (arith, c.loop-party.invariant.0, times-next c.loop-party.party a.each), steps_call c.loop-party.invariant.1 c.loop-party-test.true refl c.copy_from_slice.auto.self (c.copy_from_slice.ensures.after ∙ c.piece-key.ensures.0 ∙ key-there a.inputs a.k a.each a.n c.loop-w.w c.loop-party.party c.loop-party.from a.mine.now c.requires.0 c.requires.1.0 c.loop-party.invariant.0 c.loop-w-test.true c.loop-party-test.true))

pub overflow_add-first : goal.overflow_add-first
overflow_add-first c = let a = c.args in omega (arith, c.loop-w.invariant.0, c.requires.0, times-fits c.loop-w.w a.inputs a.k c.loop-w-test.true)

pub loop-w-preserved : goal.loop-w-preserved
loop-w-preserved c = let a = c.args in (omega (arith, c.loop-w.invariant.0, times-next c.loop-w.w a.k), level_nest c.loop-w.invariant.1 c.loop-w-test.true refl c.loop-party.invariant.1 c.loop-party-test.false refl)

pub shape_of-keys : goal.shape_of-keys
shape_of-keys c = c.loop-w.invariant.1.kept

pub returns : goal.returns
returns c = level_whole c.loop-w.invariant.1 c.loop-w-test.false c.requires.1.1
