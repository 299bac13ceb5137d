-- `bundles::splitting::split`: accepted, the residues; refused, the buffer as it was. Assumes nothing.
use mathlib.Core.Path.{sym, ◌∙◌}
use native.Mathlib.Omega.{arith}
use lib.ListN.{length}
use Rattle.checks.proofs.Answers.{passed_on}
use Rattle.bundles.proofs.Verdicts.{split_passed, splits_accepted, splits_refused}
use Rattle.bundles.proofs.splitting.split.Goals as goal

pub put_residues-requires : goal.put_residues-requires
put_residues-requires c = let a = c.args in
    let p = split_passed a.r a.integer (length a.residues.now) (sym c.split_checked.ensures ∙ c.in_ok-split_checked.was) in
    omega (arith, p.range.ten, p.size)

pub returns-in_err-split_checked : goal.returns-in_err-split_checked
returns-in_err-split_checked c = splits_refused c.split_checked.ensures c.in_err-split_checked.was (passed_on c.from_residual.ensures.1)

pub returns : goal.returns
returns c = splits_accepted c.split_checked.ensures c.in_ok-split_checked.was c.put_residues.ensures
