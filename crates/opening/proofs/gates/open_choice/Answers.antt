-- `opening::open_choice` meets its contract: the chooser's row, and the row of the corrector that is named. Assumes nothing.
use Rattle.contribution.proofs.Sizes.{vector-fits}
use Rattle.opening.proofs.Bared.{choice_is}
use Rattle.opening.proofs.gates.open_choice.Goals as goal

pub corrector_row-row-requires : goal.corrector_row-row-requires
corrector_row-row-requires c = (c.requires.seated.1.0.size, (c.requires.seated.1.1.1, vector-fits c.requires.seated.0.sizes))

pub returns : goal.returns
returns c = choice_is _ _ _ _ _ c.args.rows.now _ _ _ _ c.corrector_row-row.ensures.0 c.open_chooser.ensures c.add_bare.ensures
