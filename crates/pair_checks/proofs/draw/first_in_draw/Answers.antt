-- `pair_checks::first_in_draw` meets its contract: a search in two parts. Assumes nothing.
use native.Mathlib.Omega.{arith}
use Rattle.circuit.specs.Held.{wires_in}
use Rattle.pair_checks.proofs.Draws.{split-fits, front-size, front_long, rest-long, rest-fits, in_offsets, in_zeros}
use Rattle.pair_checks.proofs.draw.first_in_draw.Goals as goal

pub overflow_mul-split : goal.overflow_mul-split
overflow_mul-split c = omega (arith, split-fits c.args.k (wires_in c.args.circuit) c.args.draw.now c.requires.draw_len c.moduli_used.ensures)

pub slice_bounds-first_in_offsets-end : goal.slice_bounds-first_in_offsets-end
slice_bounds-first_in_offsets-end c = front-size c.args.k (wires_in c.args.circuit) c.args.draw.now c.requires.draw_len c.moduli_used.ensures

pub first_in_offsets-found-requires : goal.first_in_offsets-found-requires
first_in_offsets-found-requires c = record { room = (c.requires.held.0.room, c.requires.held.1); bytes_len = front_long c.args.k (wires_in c.args.circuit) c.args.draw.now c.requires.draw_len c.moduli_used.ensures }

pub returns-then-found-split : goal.returns-then-found-split
returns-then-found-split c = in_offsets c.args.k (wires_in c.args.circuit) c.args.draw.now c.requires.draw_len c.moduli_used.ensures c.first_in_offsets-found.ensures c.if-found-split.true

pub slice_bounds-first_in_keys-count : goal.slice_bounds-first_in_keys-count
slice_bounds-first_in_keys-count c = omega (arith, split-fits c.args.k (wires_in c.args.circuit) c.args.draw.now c.requires.draw_len c.moduli_used.ensures)

pub slice_bounds-first_in_keys-start : goal.slice_bounds-first_in_keys-start
slice_bounds-first_in_keys-start c = omega (arith, split-fits c.args.k (wires_in c.args.circuit) c.args.draw.now c.requires.draw_len c.moduli_used.ensures)

pub first_in_keys-rest-requires : goal.first_in_keys-rest-requires
first_in_keys-rest-requires c = record { held = c.requires.held.0; keys_len = rest-long c.args.k (wires_in c.args.circuit) c.args.draw.now c.requires.draw_len c.moduli_used.ensures }

pub overflow_add-result : goal.overflow_add-result
overflow_add-result c = omega (arith, rest-fits c.args.k (wires_in c.args.circuit) c.args.draw.now c.requires.draw_len c.moduli_used.ensures c.first_in_keys-rest.ensures)

pub returns : goal.returns
returns c = in_zeros c.args.k (wires_in c.args.circuit) c.args.draw.now c.requires.draw_len c.moduli_used.ensures c.first_in_offsets-found.ensures c.if-found-split.false c.first_in_keys-rest.ensures
