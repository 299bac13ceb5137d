-- `search::multipliers::multiplier` meets its contract. Of the search holds that no multiplier below alpha fits; of the components, that the key agrees with
-- alpha's key before place i. The way out behind the components has the first that fits, the way out at alpha = p has none.
-- Assumes nothing.
use mathlib.Core.Path.{refl, sym}
use native.Mathlib.Omega.{arith}
use Rattle.search.proofs.Same.{agree_none}
use Rattle.search.proofs.Tried.{tried_none, tried_all, tried_more, tried_found, component-agrees}
use Rattle.search.proofs.multipliers.multiplier.Goals as goal

pub search-init : goal.search-init
search-init c = tried_none _ _ _ _

pub loop-i-init : goal.loop-i-init
loop-i-init c = (refl, agree_none _ _)

pub overflow_add-alpha : goal.overflow_add-alpha
overflow_add-alpha c = record { fits = omega arith }

pub loop-i-preserved : goal.loop-i-preserved
loop-i-preserved c = (
  c.loop-i.invariant.0,
  rw c.loop-i.invariant.0 (component-agrees c.search.invariant (omega arith) (omega arith) (omega arith)
      (rw c.loop-i.invariant.0 at c.loop-i.invariant.1) (omega arith) (rw c.loop-i.invariant.0 at c.component.ensures) c.if-component-byte.false),
)

pub search-preserved : goal.search-preserved
search-preserved c = rw c.loop-i.invariant.0 (tried_more c.search.invariant (omega arith) (omega arith) (omega arith)
    (omega arith) (rw c.loop-i.invariant.0 at c.component.ensures) c.if-component-byte.true)

pub search-smaller : goal.search-smaller
search-smaller c = omega arith

pub returns-then-alpha-p : goal.returns-then-alpha-p
returns-then-alpha-p c = sym (tried_all _ _ _ _ c.search.invariant c.if-alpha-p.true)

pub returns-after-loop-i : goal.returns-after-loop-i
returns-after-loop-i c = rw c.loop-i.invariant.0 (sym (tried_found c.search.invariant (omega arith) (omega arith) (omega arith)
    (rw c.loop-i.invariant.0 at c.loop-i.invariant.1) (omega arith)))
