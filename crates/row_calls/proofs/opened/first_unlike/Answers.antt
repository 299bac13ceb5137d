-- `row_calls::first_unlike` meets its contract: the keys are made, then compared. Assumes nothing.
use Rattle.row_calls.proofs.Opens.{own_fit, own_compared, wrong_is}
use Rattle.row_calls.proofs.opened.first_unlike.Goals as goal

pub put_keys-requires : goal.put_keys-requires
put_keys-requires c = own_fit c.requires.given c.requires.own_len

pub first_other-requires : goal.first_other-requires
first_other-requires c = own_compared c.requires.given c.put_keys.ensures

pub returns : goal.returns
returns c = wrong_is c.requires.given c.put_keys.ensures c.first_other.ensures
