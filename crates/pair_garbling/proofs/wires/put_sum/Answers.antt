-- `pair_garbling::wires::put_sum` meets its contract: a key with multiplier 1 is a sum.
-- Assumes nothing.
use mathlib.Core.Path.{ap₂, ◌∙◌}
use Rattle.residue.specs.Vector.{add_v}
use Rattle.contribution.proofs.Once.{key_once}
use Rattle.pair_garbling.proofs.Looked.{zero-found}
use Rattle.pair_garbling.proofs.wires.put_sum.Goals as goal

pub returns : goal.returns
returns c = c.key_of.ensures ∙ key_once _ _ _ ∙ ap₂ (add_v c.args.p) (zero-found c.args.k c.args.keys.now c.nth_piece-a.ensures.0 c.from.ensures) (zero-found c.args.k c.args.keys.now c.nth_piece-b.ensures.0 c.from-2.ensures)
