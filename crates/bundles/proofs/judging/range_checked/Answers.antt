-- `bundles::judging::range_checked`. Assumes nothing.
use Rattle.checks.specs.declared.Refusal.TheVariants.{BundleRange}
use Rattle.bundles.specs.Call.{range_checked}
use Rattle.bundles.proofs.Verdicts.{test_is}
use Rattle.bundles.proofs.judging.range_checked.Goals as goal

pub returns : goal.returns
unfolding range_checked
returns c = test_is BundleRange c.unless.ensures c.in_range.ensures
