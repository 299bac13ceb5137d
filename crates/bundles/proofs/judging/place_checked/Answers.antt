-- `bundles::judging::place_checked`: test by test. Assumes nothing.
use mathlib.Core.Path.{ap, ◌∙◌}
use Prim.Native.Nat.{ℕ, ◌*◌}
use lib.Dec.{leb}
use Rattle.checks.specs.declared.Refusal.TheVariants.{NotMade, TooMany, TooShort}
use Rattle.checks.proofs.Answers.{passed_on, stage_passed, stage_refused}
use Rattle.bundles.proofs.Verdicts.{test_is}
use Rattle.bundles.proofs.judging.place_checked.Goals as goal

pub returns-in_err-unless : goal.returns-in_err-unless
returns-in_err-unless c =
    passed_on c.from_residual.ensures.1 ∙ stage_refused (test_is NotMade c.unless.ensures c.are_below.ensures) _ c.in_err-unless.was

pub returns-in_err-unless-2 : goal.returns-in_err-unless-2
returns-in_err-unless-2 c =
    stage_passed (test_is NotMade c.unless.ensures c.are_below.ensures) c.in_ok-unless.was
    (passed_on c.from_residual-in_err-unless-2.ensures.1
    ∙ stage_refused (test_is TooMany c.unless-2.ensures c.is_below.ensures) _ c.in_err-unless-2.was)

pub returns : goal.returns
returns c = let a = c.args in
    stage_passed (test_is NotMade c.unless.ensures c.are_below.ensures) c.in_ok-unless.was
    (stage_passed (test_is TooMany c.unless-2.ensures c.is_below.ensures) c.in_ok-unless-2.was
    (test_is TooShort c.unless-3.ensures (ap (λ (n : ℕ). leb (4 * n) a.size) (c.word_count.ensures.0.count a.a))))
