-- `row_calls::open_inputs` meets its contract: the wrong key is named, or the gates are opened. Assumes nothing.
use Rattle.checks.proofs.Answers.{passed_on}
use Rattle.row_calls.proofs.Opens.{own-next, own_stop}
use Rattle.row_calls.proofs.opened.open_inputs.Goals as goal

pub first_wrong-found-requires : goal.first_wrong-found-requires
first_wrong-found-requires c = c.requires.given

pub returns-in_err-named : goal.returns-in_err-named
returns-in_err-named c = own_stop c.requires.given _ _ c.first_wrong-found.ensures c.named.ensures (passed_on c.from_residual.ensures.1) c.in_err-named.was

pub open_gates-requires : goal.open_gates-requires
open_gates-requires c = c.requires

pub returns : goal.returns
returns c = own-next c.requires.given _ _ c.first_wrong-found.ensures c.named.ensures c.in_ok-named.was c.open_gates.ensures
