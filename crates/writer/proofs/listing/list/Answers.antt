-- `writer::listing::list` meets its contract: the reader's answer, then that of the lengths, and then all is written. Assumes nothing.
use mathlib.Core.Path.{sym, ◌∙◌}
use Rattle.checks.proofs.Answers.{passed_on, and_then_stop}
use Rattle.writer.specs.Call.{records_checked}
use Rattle.writer.proofs.Listings.{checks_met, room_is, fills_of, lists, lists_not}
use Rattle.writer.proofs.listing.list.Goals as goal

pub put_records-requires : goal.put_records-requires
put_records-requires c =
    let read = c.in_ok-circuit.ensures.ok in
    (read.held, room_is _ read c.entries_in.ensures _ _ c.lengths_checked.ensures c.in_ok-lengths_checked.was)

pub put_tables-requires : goal.put_tables-requires
put_tables-requires c = fills_of _ c.in_ok-circuit.ensures.ok c.entries_in.ensures _ _ c.lengths_checked.ensures c.in_ok-lengths_checked.was

pub returns-in_err-circuit : goal.returns-in_err-circuit
unfolding records_checked
returns-in_err-circuit c = lists_not (and_then_stop _ c.in_err-circuit.ensures.err) (passed_on c.from_residual.ensures.1)

pub returns-in_err-lengths_checked : goal.returns-in_err-lengths_checked
returns-in_err-lengths_checked c =
    lists_not (sym c.in_err-lengths_checked.was ∙ checks_met _ c.in_ok-circuit.ensures.ok c.entries_in.ensures _ _ c.lengths_checked.ensures)
    (passed_on c.from_residual-in_err-lengths_checked.ensures.1)

pub returns : goal.returns
returns c =
    lists _ c.in_ok-circuit.ensures.ok c.entries_in.ensures c.lengths_checked.ensures c.in_ok-lengths_checked.was c.put_records.ensures
    c.put_tables.ensures
