-- `prices::lines::read_lines` meets its contract. Assumes nothing.
use mathlib.Core.Path.{sym, ◌∙◌}
use native.Mathlib.Omega.{arith}
use Rattle.prices.specs.Found.{comes_to}
use Rattle.prices.proofs.Words.{so_far_start, so_far_end, so_far_long, so_far_bad, so_far_good}
use Rattle.prices.proofs.lines.read_lines.Goals as goal

pub loop-at-init : goal.loop-at-init
loop-at-init c = so_far_start c.requires

pub returns-then-n-ge16384 : goal.returns-then-n-ge16384
unfolding comes_to
returns-then-n-ge16384 c = record { is = so_far_long c.loop-at.invariant c.loop-at-test.true c.if-n-ge16384.true; most = omega arith }

pub put_at-requires : goal.put_at-requires
put_at-requires c = omega (arith, c.loop-at.invariant.lines, c.loop-at.invariant.room, c.loop-at.invariant.kept, c.if-n-ge16384.false)

pub returns-in-None : goal.returns-in-None
unfolding comes_to
returns-in-None c = record { is = so_far_bad c.loop-at.invariant c.loop-at-test.true c.if-n-ge16384.false (sym c.line_at.ensures ∙ c.in-None.is); most = omega arith }

pub loop-at-preserved : goal.loop-at-preserved
loop-at-preserved c = so_far_good c.loop-at.invariant c.loop-at-test.true c.if-n-ge16384.false c.in-Some.word (sym c.line_at.ensures ∙ c.in-Some.is) c.put_at.ensures

pub returns : goal.returns
unfolding comes_to
returns c = record { is = so_far_end c.loop-at.invariant c.loop-at-test.false; most = omega (arith, c.loop-at.invariant.lines) }
