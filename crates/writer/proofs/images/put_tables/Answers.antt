-- `writer::images::put_tables`. Assumes nothing.
use mathlib.Core.Path.{refl, ◌∙◌}
use Prim.Native.Nat.{◌+◌, ◌-◌}
use native.Mathlib.Omega.{arith}
use lib.ListN.{take, drop}
use Rattle.lists.proofs.Steps.{steps_fits, steps_long, steps_call}
use Rattle.writer.proofs.Listings.{tables_start, size-at, table-ready, table-written, tables-done}
use Rattle.writer.proofs.images.put_tables.Goals as goal

pub loop-wire-init : goal.loop-wire-init
loop-wire-init c = tables_start c.requires refl

pub slice_bounds-put_table-end : goal.slice_bounds-put_table-end
slice_bounds-put_table-end c =
    omega
    (arith, steps_fits c.loop-wire.invariant (omega arith), size-at c.requires (omega arith) refl c.entry_count.ensures c.moduli-table.ensures)

pub put_table-requires : goal.put_table-requires
put_table-requires c =
    table-ready c.requires (omega arith) refl
    (steps_long c.loop-wire.invariant (omega arith)
    (omega (arith, size-at c.requires (omega arith) refl c.entry_count.ensures c.moduli-table.ensures)))

pub loop-wire-preserved : goal.loop-wire-preserved
loop-wire-preserved c =
    let size = size-at c.requires (omega arith) refl c.entry_count.ensures c.moduli-table.ensures in
    let to = c.loop-wire.at + c.entry_count.result in
    steps_call c.loop-wire.invariant (omega arith) (omega (arith, size)) c.put_table.auto.table
    (c.put_table.ensures
    ∙ table-written c.requires (omega arith) refl (take (to - c.loop-wire.at) (drop c.loop-wire.at c.loop-wire.tables))
    (steps_long c.loop-wire.invariant (omega arith) (omega (arith, size))))

pub returns : goal.returns
returns c = tables-done c.requires refl c.loop-wire.invariant (omega arith)
