-- `opening::pass` meets its contract: a loop that opens a wire a turn, from those before it; what stands in the locals is what the definitions cut out for the wire. Assumes nothing.
use mathlib.Core.Path.{refl}
use native.Mathlib.Omega.{arith}
use Rattle.contribution.proofs.Sizes.{vector-fits}
use Rattle.opening.proofs.Loop.{loop_start, table-long, same_keys, same-externals, places_size, places_room, cursor_room, rows-room, turn-seated, turn-ready, turn-room, loop-keys, loop-externals, loop-next, loop-short, loop-all}
use Rattle.opening.proofs.pass.pass.Goals as goal

pub moduli-table-requires : goal.moduli-table-requires
moduli-table-requires c = c.requires.given.held.room

pub ranks-places-requires : goal.ranks-places-requires
ranks-places-requires c = c.requires.given.held.room

pub first_record-zero-requires : goal.first_record-zero-requires
first_record-zero-requires c = (c.requires.given.held.room, c.requires.given.sizes.short)

pub loop-w-init : goal.loop-w-init
loop-w-init c = loop_start c.requires.given c.first_record-zero.ensures c.requires.wkeys_len.0 c.requires.wkeys_len.1

pub slice_bounds-row_bytes-end : goal.slice_bounds-row_bytes-end
slice_bounds-row_bytes-end c = omega (arith, table-long c.requires.given c.moduli-table.ensures)

pub row_bytes-size-requires : goal.row_bytes-size-requires
row_bytes-size-requires c = omega (arith, vector-fits c.requires.given.sizes)

pub piece-own-requires : goal.piece-own-requires
piece-own-requires c = rows-room c.requires.given c.loop-w-test.true c.loop-w.invariant c.moduli-table.ensures c.row_bytes-size.ensures

pub slice_bounds-over-end : goal.slice_bounds-over-end
slice_bounds-over-end c = omega (arith, table-long c.requires.given c.moduli-table.ensures)

pub slice_bounds-offset_place-end : goal.slice_bounds-offset_place-end
slice_bounds-offset_place-end c = omega (arith, places_size c.requires.given c.ranks-places.ensures)

pub offset_place-requires : goal.offset_place-requires
offset_place-requires c = (places_room c.requires.given c.loop-w-test.true c.loop-w.invariant c.ranks-places.ensures, c.requires.given.sizes.short)

pub put_wire-e-requires : goal.put_wire-e-requires
put_wire-e-requires c = record { seated = (turn-seated c.requires.given c.loop-w-test.true c.loop-w.invariant c.moduli-table.ensures c.row_bytes-size.ensures c.ranks-places.ensures c.recipe_of-how.ensures c.piece-own.ensures.0 refl c.over.ensures c.offset_place.ensures, turn-room c.requires.given c.loop-w-test.true c.loop-w.invariant c.moduli-table.ensures c.row_bytes-size.ensures c.ranks-places.ensures c.recipe_of-how.ensures c.piece-own.ensures.0 refl c.over.ensures c.offset_place.ensures); ready = turn-ready c.requires.given c.loop-w-test.true c.loop-w.invariant c.moduli-table.ensures c.row_bytes-size.ensures c.ranks-places.ensures c.recipe_of-how.ensures c.piece-own.ensures.0 refl c.over.ensures c.offset_place.ensures }

pub shape_of-wkeys-then-p-e : goal.shape_of-wkeys-then-p-e
shape_of-wkeys-then-p-e c = same_keys c.requires.given (loop-keys c.requires.given c.loop-w-test.true c.loop-w.invariant c.moduli-table.ensures c.row_bytes-size.ensures c.ranks-places.ensures c.recipe_of-how.ensures c.piece-own.ensures.0 refl c.over.ensures c.offset_place.ensures c.put_wire-e.ensures) c.requires.wkeys_len.0

pub shape_of-wexternals-then-p-e : goal.shape_of-wexternals-then-p-e
shape_of-wexternals-then-p-e c = same-externals c.requires.given (loop-externals c.requires.given c.loop-w-test.true c.loop-w.invariant c.moduli-table.ensures c.row_bytes-size.ensures c.ranks-places.ensures c.recipe_of-how.ensures c.piece-own.ensures.0 refl c.over.ensures c.offset_place.ensures c.put_wire-e.ensures) c.requires.wkeys_len.1

pub returns-then-p-e : goal.returns-then-p-e
returns-then-p-e c = loop-short c.requires.given c.loop-w-test.true c.loop-w.invariant c.moduli-table.ensures c.row_bytes-size.ensures c.ranks-places.ensures c.recipe_of-how.ensures c.piece-own.ensures.0 refl c.over.ensures c.offset_place.ensures c.put_wire-e.ensures c.if-p-e.true

pub record_size-zero-requires : goal.record_size-zero-requires
record_size-zero-requires c = c.requires.given.sizes.short

pub overflow_add-zero : goal.overflow_add-zero
overflow_add-zero c = omega (arith, cursor_room c.requires.given c.loop-w-test.true c.loop-w.invariant c.record_size-zero.ensures, c.well_formed)

pub overflow_add-from : goal.overflow_add-from
overflow_add-from c = omega (arith, rows-room c.requires.given c.loop-w-test.true c.loop-w.invariant c.moduli-table.ensures c.row_bytes-size.ensures, c.well_formed)

pub loop-w-preserved : goal.loop-w-preserved
loop-w-preserved c = loop-next c.requires.given c.loop-w-test.true c.loop-w.invariant c.moduli-table.ensures c.row_bytes-size.ensures c.ranks-places.ensures c.recipe_of-how.ensures c.piece-own.ensures.0 refl c.over.ensures c.offset_place.ensures c.put_wire-e.ensures c.if-p-e.false c.record_size-zero.ensures

pub shape_of-wkeys : goal.shape_of-wkeys
shape_of-wkeys c = same_keys c.requires.given c.loop-w.invariant.keys_size c.requires.wkeys_len.0

pub shape_of-wexternals : goal.shape_of-wexternals
shape_of-wexternals c = same-externals c.requires.given c.loop-w.invariant.externals_size c.requires.wkeys_len.1

pub returns : goal.returns
returns c = loop-all c.requires.given c.loop-w.invariant c.loop-w-test.false
