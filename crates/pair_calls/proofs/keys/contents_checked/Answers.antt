-- `pair_calls::contents_checked` meets its contract: the checks in their order. Assumes nothing.
use mathlib.Core.Path.{◌∙◌}
use Rattle.checks.proofs.Answers.{stage_passed, stage_refused, passed_on}
use native.Mathlib.Omega.{arith}
use Rattle.session.proofs.Circuits.{inputs-made}
use Rattle.pair_calls.proofs.keys.contents_checked.Goals as goal

pub values_checked-requires : goal.values_checked-requires
values_checked-requires c = (c.requires.drawn.ranged.held.room, omega (arith, c.requires.values_length, inputs-made c.requires.drawn.ranged.held))

pub drawn_checked-requires : goal.drawn_checked-requires
drawn_checked-requires c = c.requires.drawn

pub returns-in_err-values_checked : goal.returns-in_err-values_checked
returns-in_err-values_checked c = passed_on c.from_residual.ensures.1 ∙ stage_refused c.values_checked.ensures _ c.in_err-values_checked.was

pub returns : goal.returns
returns c = stage_passed c.values_checked.ensures c.in_ok-values_checked.was c.drawn_checked.ensures
