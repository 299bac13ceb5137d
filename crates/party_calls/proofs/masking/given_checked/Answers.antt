-- `party_calls::given_checked` meets its contract: a wrong length, or what the check of the bytes answers. Assumes nothing.
use mathlib.Core.Path.{◌∙◌}
use Rattle.checks.proofs.Answers.{stage_passed, stage_refused, passed_on}
use Rattle.party_calls.proofs.OwnExternals.{own-lengths, own-lent}
use Rattle.party_calls.proofs.masking.given_checked.Goals as goal

pub returns-in_err-lengths_checked : goal.returns-in_err-lengths_checked
returns-in_err-lengths_checked c = passed_on c.from_residual.ensures.1 ∙ stage_refused (own-lengths c.requires c.args.party _ _ _ c.inputs_of-own.ensures c.lengths_checked.ensures) _ c.in_err-lengths_checked.was

pub own_checked-requires : goal.own_checked-requires
own_checked-requires c = own-lent c.requires c.args.party _ _ c.args.bytes c.inputs_of-own.ensures c.lengths_checked.ensures c.in_ok-lengths_checked.was

pub returns : goal.returns
returns c = stage_passed (own-lengths c.requires c.args.party _ _ _ c.inputs_of-own.ensures c.lengths_checked.ensures) c.in_ok-lengths_checked.was c.own_checked.ensures
