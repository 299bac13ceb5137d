-- `opening::own_multiplier` meets its contract: the two parts of the contribution and the own key are what the definition searches with. Assumes nothing.
use native.Mathlib.Omega.{arith}
use Rattle.lists.proofs.Sums.{times-fits}
use Rattle.opening.proofs.Turns.{made_shown}
use Rattle.opening.proofs.own.own_multiplier.Goals as goal

pub nth_piece-key-requires : goal.nth_piece-key-requires
nth_piece-key-requires c = omega (arith, times-fits c.args.turn.party c.args.turn.n c.args.turn.k c.requires.0.party, c.requires.1.1.size)

pub returns : goal.returns
returns c = made_shown c.args.turn c.args.contribution.now c.args.all.now c.piece-zero.ensures.0 c.piece-offset.ensures.0 c.nth_piece-key.ensures.0 c.multiplier.ensures
