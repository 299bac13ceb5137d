-- Laws of `named_corrector`: the corrector that the bit names, where both lie one behind the other in the rows.
-- Assumes nothing.
use mathlib.Core.Path.{◌≡◌, refl}
use mathlib.Core.List.{List}
use Prim.Native.Nat.{ℕ, zero, suc}
use Rattle.lists.specs.Blocks.{part}
use Rattle.search.specs.Corrector.{named_corrector}

-- a part of it, by the bit
pub part-first : {bit : ℕ} (first second : List ℕ) (at width : ℕ) → bit ≡ 0 → part (named_corrector bit first second) at width ≡ part first at width
unfolding named_corrector
part-first first second at width e = rw e refl

pub part-second : (bit : ℕ) (first second : List ℕ) (at width : ℕ) → (bit ≡ 0 → ⊥) → part (named_corrector bit first second) at width ≡ part second at width
unfolding named_corrector
part-second zero first second at width h = absurd (h refl)
part-second (suc bit) first second at width h = refl
