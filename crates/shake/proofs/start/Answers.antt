-- `shake::start` meets its contract: it is the empty sponge by definition.
-- Assumes nothing.
use mathlib.Core.Path.{refl}
use Rattle.shake.specs.Shake.{zero_state}
use Rattle.shake.specs.Stream.{empty}
use Rattle.shake.proofs.start.Goals as goal

pub returns : goal.returns
unfolding empty zero_state
returns c = refl
