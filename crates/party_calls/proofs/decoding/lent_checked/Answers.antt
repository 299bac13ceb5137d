-- `party_calls::lent_checked` meets its contract: a wrong length, or what the check of the bytes answers. Assumes nothing.
use mathlib.Core.Path.{◌∙◌}
use Rattle.checks.proofs.Answers.{stage_passed, stage_refused, passed_on}
use Rattle.party_calls.proofs.Decodes.{decode-lengths, lent-masked}
use Rattle.party_calls.proofs.decoding.lent_checked.Goals as goal

pub returns-in_err-lengths_checked : goal.returns-in_err-lengths_checked
returns-in_err-lengths_checked c = passed_on c.from_residual.ensures.1 ∙ stage_refused (decode-lengths c.requires c.args.party _ _ _ c.lengths_checked.ensures) _ c.in_err-lengths_checked.was

pub masks_checked-requires : goal.masks_checked-requires
masks_checked-requires c = lent-masked c.requires c.args.party _ _ c.args.bytes c.lengths_checked.ensures c.in_ok-lengths_checked.was

pub returns : goal.returns
returns c = stage_passed (decode-lengths c.requires c.args.party _ _ _ c.lengths_checked.ensures) c.in_ok-lengths_checked.was c.masks_checked.ensures
