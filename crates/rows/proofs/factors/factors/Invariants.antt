-- `rows::factors::factors` meets its contract: one factor after another.
-- Assumes nothing.
use mathlib.Core.Path.{◌≡◌}
use Prim.Native.Nat.{ℕ, ◌<◌}
use Rattle.rows.proofs.Filling.{Standing}
use Rattle.rows.proofs.factors.factors.Given as goal

abbrev pub invariant-loop-alpha : goal.invariant-loop-alpha
invariant-loop-alpha g l = (f : ℕ → ℕ) → ((α v : ℕ) → α < l.p → goal.F-post g l.fn.of α v → v ≡ f α) → Standing l.p f l.initial.factors l.alpha l.factors
