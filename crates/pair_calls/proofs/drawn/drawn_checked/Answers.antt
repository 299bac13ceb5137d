-- `pair_calls::drawn_checked` meets its contract: the checks in their order. Assumes nothing.
use mathlib.Core.Path.{◌∙◌}
use Rattle.checks.proofs.Answers.{stage_passed, stage_refused, passed_on}
use Rattle.pair_calls.proofs.drawn.drawn_checked.Goals as goal

pub draw_checked-requires : goal.draw_checked-requires
draw_checked-requires c = record { held = (c.requires.ranged.held, c.requires.ranged.short); draw_len = c.requires.size }

pub units_checked-requires : goal.units_checked-requires
units_checked-requires c = record { room = (c.requires.ranged.held.room, (c.requires.ranged.long, c.requires.ranged.short)); draw_len = c.requires.size }

pub returns-in_err-draw_checked : goal.returns-in_err-draw_checked
returns-in_err-draw_checked c = passed_on c.from_residual.ensures.1 ∙ stage_refused c.draw_checked.ensures _ c.in_err-draw_checked.was

pub returns : goal.returns
returns c = stage_passed c.draw_checked.ensures c.in_ok-draw_checked.was c.units_checked.ensures
