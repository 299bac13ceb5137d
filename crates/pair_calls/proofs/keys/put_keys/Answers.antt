-- `pair_calls::put_keys` meets its contract: a loop that fills the buffer key by key. Assumes nothing.
use mathlib.Core.Path.{refl, ◌∙◌}
use native.Mathlib.Omega.{arith}
use Rattle.lists.proofs.Steps.{steps_fits, steps_long, steps_call}
use Rattle.session.proofs.Circuits.{inputs-made}
use Rattle.pair_calls.proofs.Keying.{keys_start, keys-done, key-positive, key_ranked, offset_is, zero-inside, offset-inside, key_as}
use Rattle.pair_calls.proofs.keys.put_keys.Goals as goal

pub ranks-places-requires : goal.ranks-places-requires
ranks-places-requires c = c.requires.lent.drawn.ranged.held.room

pub moduli_used-used-requires : goal.moduli_used-used-requires
moduli_used-used-requires c = c.requires.lent.drawn.ranged.held.room

pub loop-w-init : goal.loop-w-init
loop-w-init c = keys_start c.requires refl

pub offset_bounds-circuit-w : goal.offset_bounds-circuit-w
offset_bounds-circuit-w c = omega (arith, c.requires.lent.drawn.ranged.held.room.made, c.requires.lent.drawn.ranged.held.room.wires, inputs-made c.requires.lent.drawn.ranged.held)

pub bounds-circuit-w : goal.bounds-circuit-w
bounds-circuit-w c = omega (arith, c.requires.lent.drawn.ranged.held.room.made, c.requires.lent.drawn.ranged.held.room.wires, inputs-made c.requires.lent.drawn.ranged.held)

pub offset_place-offset-requires : goal.offset_place-offset-requires
offset_place-offset-requires c = (key_ranked c.requires (omega arith) c.ranks-places.ensures, c.requires.lent.drawn.ranged.short)

pub overflow_add-zero : goal.overflow_add-zero
overflow_add-zero c = omega (arith, c.moduli_used-used.ensures.most, inputs-made c.requires.lent.drawn.ranged.held, c.requires.lent.drawn.ranged.held.room.made)

pub overflow_mul-zero : goal.overflow_mul-zero
overflow_mul-zero c = omega (arith, zero-inside c.requires {w = c.loop-w.w} (omega arith) c.moduli_used-used.ensures.is)

pub overflow_add-to : goal.overflow_add-to
overflow_add-to c = omega (arith, steps_fits c.loop-w.invariant (omega arith))

pub bounds-values-w : goal.bounds-values-w
bounds-values-w c = omega (arith, c.requires.lent.values_length)

pub slice_bounds-put_key-count : goal.slice_bounds-put_key-count
slice_bounds-put_key-count c = omega (arith, steps_fits c.loop-w.invariant (omega arith))

pub slice_bounds-put_key-start : goal.slice_bounds-put_key-start
slice_bounds-put_key-start c = omega (arith, steps_fits c.loop-w.invariant (omega arith))

pub slice_bounds-put_key-end : goal.slice_bounds-put_key-end
slice_bounds-put_key-end c = omega (arith, steps_fits c.loop-w.invariant (omega arith))

pub put_key-requires : goal.put_key-requires
put_key-requires c = record { p_nonzero = (key-positive c.requires (omega arith), steps_long c.loop-w.invariant (omega arith) refl); k_in_bounds = (zero-inside c.requires (omega arith) c.moduli_used-used.ensures.is, offset-inside c.requires (omega arith) (offset_is c.requires (omega arith) c.ranks-places.ensures c.offset_place-offset.ensures)) }

pub loop-w-preserved : goal.loop-w-preserved
loop-w-preserved c = steps_call c.loop-w.invariant (omega arith) refl c.put_key.auto.out (c.put_key.ensures ∙ key_as c.requires (omega arith) c.moduli_used-used.ensures.is (offset_is c.requires (omega arith) c.ranks-places.ensures c.offset_place-offset.ensures))

pub shape_of-keys : goal.shape_of-keys
shape_of-keys c = c.loop-w.invariant.kept

pub returns : goal.returns
returns c = keys-done c.requires c.loop-w.invariant refl (omega arith)
