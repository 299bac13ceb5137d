-- `writer::images::entries_in`. Assumes nothing.
use mathlib.Core.Path.{refl}
use native.Mathlib.Omega.{arith}
use Rattle.counts.proofs.Counting.{summed_start, summed-step}
use Rattle.writer.proofs.Listings.{entries_at}
use Rattle.writer.proofs.images.entries_in.Goals as goal

pub loop-wire-init : goal.loop-wire-init
loop-wire-init c = summed_start

pub loop-wire-preserved : goal.loop-wire-preserved
loop-wire-preserved c =
    summed-step c.loop-wire.invariant (omega arith) c.entry_count-total.ensures (entries_at _ c.loop-wire.wire-index _ refl c.moduli-table.ensures)
