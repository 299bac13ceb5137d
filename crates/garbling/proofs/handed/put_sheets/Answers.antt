-- `garbling::put_sheets` meets its contract: sheet by sheet, parties ascending. Assumes nothing.
use mathlib.Core.Path.{refl}
use native.Mathlib.Omega.{arith}
use Rattle.lists.proofs.Steps.{level_start, steps_fits, steps_call, level_whole}
use Rattle.garbling.proofs.handed.put_sheets.Goals as goal

pub loop-party-init : goal.loop-party-init
loop-party-init c = level_start (omega (arith, c.requires.1.1))

pub slice_bounds-put_sheet-end : goal.slice_bounds-put_sheet-end
slice_bounds-put_sheet-end c = omega (arith, steps_fits c.loop-party.invariant (omega arith), c.loop-party.invariant.kept)

pub loop-party-preserved : goal.loop-party-preserved
loop-party-preserved c = steps_call c.loop-party.invariant (omega arith) refl c.put_sheet.auto.sheet c.put_sheet.ensures

pub returns : goal.returns
returns c = level_whole c.loop-party.invariant (omega arith) c.requires.1.1
