-- `opening::differing` meets its contract: both wires' keys are cut out of the buffer. Assumes nothing.
use mathlib.Core.Path.{ap₂, ◌∙◌}
use Rattle.residue.specs.Vector.{sub_v}
use Rattle.opening.proofs.before.Before.differing.Goals as goal

pub returns : goal.returns
returns c = (c.sub.ensures, c.difference.ensures ∙ ap₂ (sub_v c.args.turn.modulus) c.nth_piece.ensures.0 c.nth_piece-2.ensures.0)
