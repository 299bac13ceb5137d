-- `party_calls::either_checked` meets its contract: a loop that looks for the first, refused there. Assumes nothing.
use mathlib.Core.Path.{sym, ◌∙◌}
use native.Mathlib.Omega.{arith}
use Rattle.lists.proofs.Search.{looking_on}
use Rattle.checks.proofs.Answers.{refused_at}
use Rattle.scheme.proofs.ByteChecks.{either_fine}
use Rattle.party_calls.specs.Either.{bad_at, bad_read}
use Rattle.party_calls.proofs.TwoBuffers.{or_left, or_right, either_found, either_none}
use Rattle.party_calls.proofs.either.either_checked.Goals as goal
use Rattle.party_calls.proofs.either.either_checked.Goals.{then-bad_at-via-then-bad_at, then-bad_at-via-else-bad_at+then-bad_read}

pub returns-then-bad_at : goal.returns-then-bad_at
returns-then-bad_at c = let a = c.args in
    refused_at c.at.ensures
    ∙ either_found _ _ _ _ _ _ c.loop-i.invariant (omega (arith, c.max-i-end.ensures))
    (elim c.then-bad_at.branch [
      | then-bad_at-via-then-bad_at w ↦ or_left (bad_read a.ys.now a.qs.now a.readers.now a.party c.loop-i.i) (sym c.bad_at.ensures ∙ w.if-bad_at.true)
      | then-bad_at-via-else-bad_at+then-bad_read w ↦ or_right (bad_at a.xs.now a.ps.now c.loop-i.i) (sym w.bad_read.ensures ∙ w.if-bad_read.true)
    ])

pub loop-i-preserved : goal.loop-i-preserved
loop-i-preserved c = looking_on c.loop-i.invariant (omega (arith, c.max-i-end.ensures)) (either_fine (sym c.bad_at.ensures ∙ c.if-bad_at.false) (sym c.bad_read.ensures ∙ c.if-bad_read.false))

pub returns : goal.returns
returns c = either_none _ _ _ _ _ _ c.loop-i.invariant (omega (arith, c.max-i-end.ensures))
