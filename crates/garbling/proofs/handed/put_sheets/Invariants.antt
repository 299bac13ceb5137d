-- `garbling::put_sheets` meets its contract: sheet by sheet, parties ascending. Assumes nothing.
use Rattle.lists.proofs.Steps.{Level}
use Rattle.garbling.specs.Sheets.{sheet_here}
use Rattle.garbling.proofs.handed.put_sheets.Given as goal

abbrev pub invariant-loop-party : goal.invariant-loop-party
invariant-loop-party l = Level l.initial.sheets 0 l.party l.n l.circuit.given (sheet_here l.circuit l.masks) l.at l.sheets
