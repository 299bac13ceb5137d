-- `party_calls::put_keys` meets its contract: a loop that fills the buffer key by key. Assumes nothing.
use mathlib.Core.Path.{refl, ◌∙◌}
use native.Mathlib.Omega.{arith}
use Rattle.lists.proofs.Steps.{steps_fits, steps_long, steps_call}
use Rattle.party_calls.proofs.KeyPlaces.{keys_start, keys-done, key-positive, rank_is, zero-inside, rank_inside, key_as}
use Rattle.party_calls.proofs.keys.put_keys.Goals as goal

pub loop-w-init : goal.loop-w-init
loop-w-init c = keys_start c.requires refl

pub overflow_add-zero-in-loop-w : goal.overflow_add-zero-in-loop-w
overflow_add-zero-in-loop-w c = omega (arith, zero-inside c.requires c.loop-w-test.true c.moduli_used.ensures.is)

pub slice_bounds-put_key-end : goal.slice_bounds-put_key-end
slice_bounds-put_key-end c = omega (arith, steps_fits c.loop-w.invariant c.loop-w-test.true)

pub put_key-requires : goal.put_key-requires
put_key-requires c = record { p_nonzero = (key-positive c.requires c.loop-w-test.true, steps_long c.loop-w.invariant c.loop-w-test.true refl); k_in_bounds = (zero-inside c.requires c.loop-w-test.true c.moduli_used.ensures.is, rank_inside c.requires c.loop-w-test.true (rank_is c.requires c.loop-w-test.true c.ranks-places.ensures c.from.ensures c.from-in-loop-w.ensures)) }

pub loop-w-preserved : goal.loop-w-preserved
loop-w-preserved c = steps_call c.loop-w.invariant c.loop-w-test.true refl c.put_key.auto.out (c.put_key.ensures ∙ key_as c.requires c.loop-w-test.true c.moduli_used.ensures.is (rank_is c.requires c.loop-w-test.true c.ranks-places.ensures c.from.ensures c.from-in-loop-w.ensures))

pub returns : goal.returns
returns c = keys-done c.requires c.loop-w.invariant refl c.loop-w-test.false
