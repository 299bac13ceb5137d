-- `opening::put_wire` meets its contract: the local has room for a vector. Assumes nothing.
use mathlib.Core.Path.{sym}
use Rattle.contribution.proofs.Sizes.{scratch_cut}
use Rattle.opening.proofs.pass.put_wire.Goals as goal

pub slice_bounds-put_from-end : goal.slice_bounds-put_from-end
slice_bounds-put_from-end c = sym (scratch_cut c.scratch-made.result c.requires.seated.0.sizes c.scratch-made.ensures)

pub put_from-requires : goal.put_from-requires
put_from-requires c = record { seated = (c.requires.seated.0, (record { size = scratch_cut c.scratch-made.result c.requires.seated.0.sizes c.scratch-made.ensures }, c.requires.seated.1)); ready = c.requires.ready }
