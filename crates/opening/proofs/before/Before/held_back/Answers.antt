-- `opening::held_back` meets its contract: what the rows give and what is searched for is the definition. Assumes nothing.
use mathlib.Core.Path.{◌∙◌}
use native.Mathlib.Omega.{arith}
use Rattle.residue.proofs.Vectors.{sub-below}
use Rattle.opening.proofs.Turns.{below_as, made_held}
use Rattle.opening.proofs.before.Before.held_back.Goals as goal

pub open_choice-requires : goal.open_choice-requires
open_choice-requires c = record { seated = (c.requires.seated.0, (c.requires.choice_ready.lines, (c.requires.choice_ready.bit.below, below_as c.differing-alpha.ensures.0 (sub-below (omega (arith, c.requires.seated.0.modulus)) _ _)))); vector = (record { size = c.nth_piece-v.ensures.1 }, (record { size = c.differing-alpha.auto.d ∙ c.requires.seated.1.0.size }, c.requires.seated.1.1)) }

pub returns : goal.returns
returns c = made_held c.args.turn c.args.lent.contribution.now c.args.lent.rows.now c.args.self.keys.now c.args.self.externals.now c.args.g c.nth_piece-v.ensures.0 c.differing-alpha.ensures.0 c.differing-alpha.ensures.1 c.open_choice.ensures c.own_multiplier.ensures
