-- `bundles::joining::join`: accepted, the integer; refused, none. Assumes nothing.
use mathlib.Core.Path.{sym, ◌∙◌}
use Rattle.checks.proofs.Answers.{passed_on}
use Rattle.bundles.proofs.Verdicts.{join_passed, join_asks, joins_accepted, joins_refused}
use Rattle.bundles.proofs.joining.join.Goals as goal

pub integer_of-requires : goal.integer_of-requires
integer_of-requires c = let a = c.args in
    join_asks (join_passed a.r a.residues.now (sym c.join_checked.ensures ∙ c.in_ok-join_checked.was))

pub returns-in_err-join_checked : goal.returns-in_err-join_checked
returns-in_err-join_checked c = joins_refused c.join_checked.ensures c.in_err-join_checked.was (passed_on c.from_residual.ensures.1)

pub returns : goal.returns
returns c = joins_accepted c.join_checked.ensures c.in_ok-join_checked.was c.integer_of.ensures
