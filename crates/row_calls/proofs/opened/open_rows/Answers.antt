-- `row_calls::open_rows` meets its contract: accepted, what was written; refused, nothing. Assumes nothing.
use Rattle.session.proofs.Circuits.{held_of}
use Rattle.checks.proofs.Answers.{passed_on}
use Rattle.row_calls.proofs.Opens.{open_unread, open_refused, open_given, open_room, open_done}
use Rattle.row_calls.proofs.opened.open_rows.Goals as goal

pub returns-in_err-circuit : goal.returns-in_err-circuit
returns-in_err-circuit c = open_unread _ _ _ _ _ _ _ _ _ _ (passed_on c.from_residual.ensures.1) c.in_err-circuit.ensures.err

pub open_asked-requires : goal.open_asked-requires
open_asked-requires c = held_of c.in_ok-circuit.ensures.ok

pub returns-in_err-open_asked : goal.returns-in_err-open_asked
returns-in_err-open_asked c = open_refused _ _ _ _ _ _ _ _ _ _ c.in_ok-circuit.ensures.ok c.open_asked.ensures (passed_on c.from_residual-in_err-open_asked.ensures.1) c.in_err-open_asked.was

pub open_inputs-requires : goal.open_inputs-requires
open_inputs-requires c =
    rw c.into.ensures
    (record {
      given = open_given _ _ _ _ _ _ _ _ _ _ c.in_ok-circuit.ensures.ok c.open_asked.ensures c.in_ok-open_asked.was;
      wkeys_len = open_room _ _ _ _ _ _ _ _ _ _ c.in_ok-circuit.ensures.ok c.open_asked.ensures c.in_ok-open_asked.was;
    })

pub returns : goal.returns
returns c = open_done _ _ _ _ _ _ _ _ _ _ c.in_ok-circuit.ensures.ok c.open_asked.ensures c.in_ok-open_asked.was (rw c.into.ensures at c.open_inputs.ensures)
