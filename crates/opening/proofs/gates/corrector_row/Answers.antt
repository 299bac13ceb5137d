-- `opening::corrector_row` meets its contract: the rows of both correctors are cut out, and the named one gives its row. Assumes nothing.
use native.Mathlib.Omega.{arith}
use Rattle.opening.proofs.Correctors.{small, first-inside, second-inside, within, corrector-at}
use Rattle.opening.proofs.gates.corrector_row.Goals as goal

pub overflow_mul-width : goal.overflow_mul-width
overflow_mul-width c = omega (arith, small {j = c.from.result} (omega (arith, c.from.ensures)) c.requires.1.1)

pub piece-first-requires : goal.piece-first-requires
piece-first-requires c = first-inside _ _ c.requires.0 c.from.ensures

pub piece-second-requires : goal.piece-second-requires
piece-second-requires c = second-inside _ _ c.requires.0 c.from.ensures

pub chosen_corrector-requires : goal.chosen_corrector-requires
chosen_corrector-requires c = (within _ _ _ c.requires.1.0 c.from-2.ensures c.from.ensures c.piece-first.ensures.1, within _ _ _ c.requires.1.0 c.from-2.ensures c.from.ensures c.piece-second.ensures.1)

pub returns : goal.returns
returns c = (corrector-at _ _ _ _ _ c.requires.1.0 c.from-2.ensures c.from.ensures c.piece-first.ensures.0 c.piece-second.ensures.0 c.chosen_corrector.ensures.0, c.chosen_corrector.ensures.1)
