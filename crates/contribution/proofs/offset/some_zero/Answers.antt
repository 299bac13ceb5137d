-- `contribution::some_zero` meets its contract: a loop that looks for the first party. Assumes nothing.
use native.Mathlib.Omega.{arith}
use mathlib.Core.Path.{sym, ◌∙◌}
use Rattle.lists.specs.Blocks.{part, nth_piece}
use Rattle.lists.proofs.Search.{looking_on}
use Rattle.scheme.proofs.Used.{some_below-at, some_below_fails}
use Rattle.scheme.specs.Bytes.{all_zero}
use Rattle.contribution.proofs.Offsets.{own-part}
use Rattle.contribution.proofs.offset.some_zero.Goals as goal

pub returns-then-all_zero : goal.returns-then-all_zero
returns-then-all_zero c = sym (some_below-at c.args.n (λ j. all_zero (part (nth_piece c.args.contributions.now c.args.size j) c.args.at c.args.k)) c.loop-party.party c.loop-party-test.true (sym (own-part c.args.contributions.now c.args.size c.loop-party.party c.args.at c.args.k c.nth_piece-own.ensures.0 c.piece.ensures.0) ∙ sym c.all_zero.ensures ∙ c.if-all_zero.true))

pub loop-party-preserved : goal.loop-party-preserved
loop-party-preserved c = looking_on c.loop-party.invariant c.loop-party-test.true (sym (own-part c.args.contributions.now c.args.size c.loop-party.party c.args.at c.args.k c.nth_piece-own.ensures.0 c.piece.ensures.0) ∙ sym c.all_zero.ensures ∙ c.if-all_zero.false)

pub returns : goal.returns
returns c = sym (some_below_fails c.args.n (λ j. all_zero (part (nth_piece c.args.contributions.now c.args.size j) c.args.at c.args.k)) (λ j l. c.loop-party.invariant.failed j (omega arith)))
