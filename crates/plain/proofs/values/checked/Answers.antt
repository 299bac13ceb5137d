-- `plain::checked` meets its contract: a wrong length, or what the check of the values answers. Assumes nothing.
use mathlib.Core.Path.{◌∙◌}
use Rattle.checks.proofs.Answers.{passed_on}
use Rattle.plain.proofs.Ending.{lent-stops, values_fit, values-left}
use Rattle.plain.proofs.values.checked.Goals as goal

pub returns-in_err-lengths_checked : goal.returns-in_err-lengths_checked
returns-in_err-lengths_checked c = passed_on c.from_residual.ensures.1 ∙ lent-stops c.requires c.args.values.now c.args.bytes c.lengths_checked.ensures c.in_err-lengths_checked.was

pub values_checked-requires : goal.values_checked-requires
values_checked-requires c = (c.requires.room, values_fit c.requires c.args.values.now c.args.bytes c.lengths_checked.ensures c.in_ok-lengths_checked.was)

pub returns : goal.returns
returns c = values-left c.requires c.args.values.now c.args.bytes c.lengths_checked.ensures c.in_ok-lengths_checked.was c.values_checked.ensures
