-- `garbling::put_sheet` meets its contract: a loop that fills the buffer output by output. Assumes nothing.
use native.Mathlib.Omega.{arith}
use Rattle.garbling.proofs.Sheets.{sheet_start, sheet-step}
use Rattle.garbling.proofs.handed.put_sheet.Goals as goal

pub loop-i-init : goal.loop-i-init
loop-i-init c = sheet_start c.requires.0 c.args.party c.requires.1

pub loop-i-preserved : goal.loop-i-preserved
loop-i-preserved c = sheet-step c.requires.0 c.args.party c.loop-i.invariant (omega (arith, c.loop-i-test.true, c.loop-i.invariant.kept, c.requires.1)) c.from-at.ensures c.shown.ensures
