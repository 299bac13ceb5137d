-- `opening::sum` meets its contract: once the second vector is that vector. Assumes nothing.
use Rattle.opening.proofs.Turns.{made_sum}
use Rattle.opening.proofs.before.Before.sum.Goals as goal

pub returns : goal.returns
returns c = made_sum c.args.turn c.args.self.keys.now c.args.self.externals.now c.args.g c.requires.seated.0.modulus c.nth_piece.ensures.0 c.nth_piece-2.ensures.0 c.key_of.ensures c.add.ensures
