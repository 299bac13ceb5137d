-- `garbling::put_sheet` meets its contract: a loop that fills the buffer output by output. Assumes nothing.
use Rattle.lists.proofs.Filled.{Filled}
use Rattle.garbling.specs.Sheets.{sheet_here}
use Rattle.garbling.proofs.handed.put_sheet.Given as goal

abbrev pub invariant-loop-i : goal.invariant-loop-i
invariant-loop-i l = Filled l.initial.sheet l.i l.circuit.given (sheet_here l.circuit l.masks l.party) l.sheet
