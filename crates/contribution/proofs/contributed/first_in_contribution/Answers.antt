-- `contribution::first_in_contribution` meets its contract: a search in two parts. Assumes nothing.
use native.Mathlib.Omega.{arith}
use Rattle.circuit.specs.Held.{wires_in}
use Rattle.contribution.proofs.Joined.{split-fits, front-size, front_long, rest-long, rest-fits, in_offsets, in_records}
use Rattle.contribution.proofs.contributed.first_in_contribution.Goals as goal

pub slice_bounds-first_in_offsets-end : goal.slice_bounds-first_in_offsets-end
slice_bounds-first_in_offsets-end c = front-size c.args.k (wires_in c.args.circuit) c.args.bytes.now c.requires.bytes_len c.first_record-split.ensures

pub first_in_offsets-found-requires-clause-bytes_len : goal.first_in_offsets-found-requires-clause-bytes_len
first_in_offsets-found-requires-clause-bytes_len c = front_long c.args.k (wires_in c.args.circuit) c.args.bytes.now c.requires.bytes_len c.first_record-split.ensures

pub returns-then-found-split : goal.returns-then-found-split
returns-then-found-split c = in_offsets c.args.k (wires_in c.args.circuit) c.args.bytes.now c.requires.bytes_len c.first_record-split.ensures c.first_in_offsets-found.ensures c.if-found-split.true

pub slice_bounds-first_in_records-count : goal.slice_bounds-first_in_records-count
slice_bounds-first_in_records-count c = split-fits c.args.k (wires_in c.args.circuit) c.args.bytes.now c.requires.bytes_len c.first_record-split.ensures

pub slice_bounds-first_in_records-start : goal.slice_bounds-first_in_records-start
slice_bounds-first_in_records-start c = split-fits c.args.k (wires_in c.args.circuit) c.args.bytes.now c.requires.bytes_len c.first_record-split.ensures

pub first_in_records-rest-requires-clause-bytes_len : goal.first_in_records-rest-requires-clause-bytes_len
first_in_records-rest-requires-clause-bytes_len c = rest-long c.args.k (wires_in c.args.circuit) c.args.bytes.now c.requires.bytes_len c.first_record-split.ensures

pub overflow_add-result : goal.overflow_add-result
overflow_add-result c = omega (arith, rest-fits c.args.k (wires_in c.args.circuit) c.args.bytes.now c.requires.bytes_len c.first_record-split.ensures c.first_in_records-rest.ensures)

pub returns : goal.returns
returns c = in_records c.args.k (wires_in c.args.circuit) c.args.bytes.now c.requires.bytes_len c.first_record-split.ensures c.first_in_offsets-found.ensures c.if-found-split.false c.first_in_records-rest.ensures
