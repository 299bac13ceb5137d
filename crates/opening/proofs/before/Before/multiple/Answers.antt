-- `opening::multiple` meets its contract: a copy, then a multiple. Assumes nothing.
use Rattle.opening.proofs.Turns.{made_multiple}
use Rattle.opening.proofs.before.Before.multiple.Goals as goal

pub returns : goal.returns
returns c = made_multiple c.args.turn c.args.self.keys.now c.args.self.externals.now c.args.g c.requires.seated.0.modulus c.nth_piece.ensures.0 c.copy_from_slice.ensures.after c.scale.ensures c.mul.ensures
