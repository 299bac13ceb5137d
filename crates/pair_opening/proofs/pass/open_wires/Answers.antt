-- `pair_opening::open_wires` meets its contract: a loop that opens a wire a turn, from those before it; what stands in the locals is what the definitions cut out for the wire. Assumes nothing.
use mathlib.Core.Path.{refl}
use native.Mathlib.Omega.{arith}
use Rattle.pair_opening.proofs.Loop.{loop_start, table-long, same_keys, same-externals, rows-room, turn-seated, turn-ready, turn-room, loop-next, loop-keys, loop-externals}
use Rattle.pair_opening.proofs.pass.open_wires.Goals as goal

pub moduli-table-requires : goal.moduli-table-requires
moduli-table-requires c = c.requires.given.held.room

pub loop-w-init : goal.loop-w-init
loop-w-init c = loop_start c.requires.given c.requires.wkeys_len.0 c.requires.wkeys_len.1

pub offset_bounds-circuit-w : goal.offset_bounds-circuit-w
offset_bounds-circuit-w c = omega (arith, c.requires.given.held.room.made, c.requires.given.held.room.wires, c.loop-w-test.true)

pub bounds-circuit-w : goal.bounds-circuit-w
bounds-circuit-w c = omega (arith, c.requires.given.held.room.made, c.requires.given.held.room.wires, c.loop-w-test.true)

pub slice_bounds-rows_size-end : goal.slice_bounds-rows_size-end
slice_bounds-rows_size-end c = omega (arith, table-long c.requires.given c.moduli-table.ensures)

pub rows_size-size-requires : goal.rows_size-size-requires
rows_size-size-requires c = c.requires.given.short

pub piece-own-requires : goal.piece-own-requires
piece-own-requires c = rows-room c.requires.given c.loop-w-test.true c.loop-w.invariant c.moduli-table.ensures c.rows_size-size.ensures

pub slice_bounds-over-end : goal.slice_bounds-over-end
slice_bounds-over-end c = omega (arith, table-long c.requires.given c.moduli-table.ensures)

pub put_wire-requires : goal.put_wire-requires
put_wire-requires c = record { seated = (turn-seated c.requires.given c.loop-w-test.true c.loop-w.invariant c.moduli-table.ensures c.rows_size-size.ensures c.piece-own.ensures.0 refl c.over.ensures, turn-room c.requires.given c.loop-w-test.true c.loop-w.invariant c.moduli-table.ensures c.rows_size-size.ensures c.piece-own.ensures.0 refl c.over.ensures); ready = turn-ready c.requires.given c.loop-w-test.true c.loop-w.invariant c.moduli-table.ensures c.rows_size-size.ensures c.piece-own.ensures.0 refl c.over.ensures }

pub overflow_add-from : goal.overflow_add-from
overflow_add-from c = omega (arith, rows-room c.requires.given c.loop-w-test.true c.loop-w.invariant c.moduli-table.ensures c.rows_size-size.ensures, c.well_formed)

pub loop-w-preserved : goal.loop-w-preserved
loop-w-preserved c = loop-next c.requires.given c.loop-w-test.true c.loop-w.invariant c.moduli-table.ensures c.rows_size-size.ensures c.piece-own.ensures.0 refl c.over.ensures c.put_wire.ensures

pub shape_of-wkeys : goal.shape_of-wkeys
shape_of-wkeys c = same_keys c.requires.given c.loop-w.invariant.keys_size c.requires.wkeys_len.0

pub shape_of-wexternals : goal.shape_of-wexternals
shape_of-wexternals c = same-externals c.requires.given c.loop-w.invariant.externals_size c.requires.wkeys_len.1

pub returns : goal.returns
returns c = (loop-keys c.requires.given c.loop-w.invariant c.loop-w-test.false, loop-externals c.requires.given c.loop-w.invariant c.loop-w-test.false)
