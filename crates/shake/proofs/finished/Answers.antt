-- `shake::finished` meets its contract: what it writes is 0x1F at the sponge's place and 0x80 in the block's last byte.
-- Assumes nothing.
use mathlib.Core.Path.{refl, ap, ◌∙◌}
use Rattle.shake.specs.Stream.{closed}
use Rattle.keccak.specs.Keccak.{keccak_f}
use Rattle.shake.proofs.Fields.{padded_lanes}
use Rattle.shake.proofs.finished.Goals as goal

pub returns : goal.returns
unfolding closed
returns c = c.keccak_f.ensures ∙ ap keccak_f (padded_lanes c.sponge.inside.lanes c.sponge.inside.at _ refl) ∙ ap closed c.sponge.view_is
