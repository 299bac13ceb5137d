-- `search::multipliers::multiplier` meets its contract. Of the search holds that no multiplier below alpha fits; of the components, that the key agrees with
-- alpha's key before place i. The way out behind the components has the first that fits, the way out at alpha = p has none.
-- Assumes nothing.
use mathlib.Core.Path.{◌≡◌}
use Prim.Native.Nat.{◌-◌}
use Rattle.residue.specs.Vector.{key_v}
use Rattle.search.proofs.Same.{Agree}
use Rattle.search.proofs.Tried.{Tried}
use Rattle.search.proofs.multipliers.multiplier.Given as goal

abbrev pub invariant-loop-i : goal.invariant-loop-i
invariant-loop-i l = (l.alpha ≡ l.initial.alpha) × Agree l.key (key_v l.p l.zero l.alpha l.offset) l.i

abbrev pub invariant-search : goal.invariant-search
invariant-search l = Tried l.p l.zero l.offset l.key l.alpha

abbrev pub decreases-search : goal.decreases-search
decreases-search l = l.p - l.alpha
