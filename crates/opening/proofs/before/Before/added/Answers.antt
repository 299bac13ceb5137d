-- `opening::added` meets its contract: once a vector is that vector. Assumes nothing.
use Rattle.opening.proofs.Turns.{made-added}
use Rattle.opening.proofs.before.Before.added.Goals as goal

pub returns : goal.returns
returns c = made-added c.args.turn c.args.self.keys.now c.args.self.externals.now c.args.a c.args.found c.args.out.now c.requires.seated.0.modulus c.nth_piece-keys.ensures.0 c.add_multiple.ensures c.add.ensures
