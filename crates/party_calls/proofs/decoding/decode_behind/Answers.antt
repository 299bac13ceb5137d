-- `party_calls::decode_behind` meets its contract: accepted, what was written; refused, nothing. Assumes nothing.
use Rattle.checks.proofs.Answers.{passed_on}
use Rattle.party_calls.proofs.Decodes.{decodes_of, behind_written, behind_refused}
use Rattle.party_calls.proofs.decoding.decode_behind.Goals as goal

pub returns-in_err-lent_checked : goal.returns-in_err-lent_checked
returns-in_err-lent_checked c = behind_refused _ _ _ _ _ c.lent_checked.ensures (passed_on c.from_residual.ensures.1) c.in_err-lent_checked.was

pub put_decoded-requires : goal.put_decoded-requires
put_decoded-requires c = decodes_of _ _ _ _ _ c.lent_checked.ensures c.in_ok-lent_checked.was c.requires

pub returns : goal.returns
returns c = behind_written _ _ _ _ _ c.lent_checked.ensures c.in_ok-lent_checked.was c.put_decoded.ensures
