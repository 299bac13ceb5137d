-- `rows::factors::factors` meets its contract: one factor after another.
-- Assumes nothing.
use mathlib.Core.Path.{sym, subst}
use Prim.Native.Nat.{ℕ, ◌+◌}
use lib.ListN.{set}
use Rattle.rows.proofs.Filling.{Standing, none-stand, one_more, all-stand}
use Rattle.rows.proofs.factors.factors.Goals as goal

pub loop-alpha-init : goal.loop-alpha-init
loop-alpha-init g c = λ f are. none-stand c.args.p f c.scratch-factors.ensures c.ranges.p.fits

pub loop-alpha-preserved : goal.loop-alpha-preserved
loop-alpha-preserved g c = λ f are. subst (λ (i : ℕ). Standing c.args.p f c.scratch-factors.result (c.loop-alpha.alpha + 1) (set c.loop-alpha.factors i c.of.result)) (sym c.from.ensures) (one_more c.args.p f (c.loop-alpha.invariant f are) c.loop-alpha-test.true (are c.loop-alpha.alpha c.of.result c.loop-alpha-test.true c.of.ensures))

pub returns : goal.returns
returns g c = λ f are. all-stand c.args.p f (c.loop-alpha.invariant f are) c.loop-alpha-test.false c.scratch-factors.ensures
