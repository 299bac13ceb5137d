-- `pair_calls::key_lengths_checked` meets its contract: a wrong length, or what the checks of the bytes answer. Assumes nothing.
use mathlib.Core.Path.{◌∙◌}
use Rattle.checks.proofs.Answers.{stage_passed, stage_refused, passed_on}
use native.Mathlib.Omega.{arith}
use Rattle.session.proofs.Circuits.{inputs-made}
use Rattle.pair_calls.proofs.Shared.{small_product}
use Rattle.pair_calls.proofs.Keying.{keys-lengths, keys-lent}
use Rattle.pair_calls.proofs.keys.key_lengths_checked.Goals as goal

pub draw_size-requires : goal.draw_size-requires
draw_size-requires c = (c.requires.held, c.requires.short)

pub overflow_mul-inputs : goal.overflow_mul-inputs
overflow_mul-inputs c = omega (arith, small_product {a = c.args.circuit.inputs} {b = c.args.k} {m = 1024} {n = 128} (omega (arith, inputs-made c.requires.held, c.requires.held.room.made)) c.requires.short)

pub contents_checked-requires : goal.contents_checked-requires
contents_checked-requires c = keys-lent c.requires _ _ c.args.bytes c.draw_size.ensures c.lengths_checked.ensures c.in_ok-lengths_checked.was

pub returns-in_err-lengths_checked : goal.returns-in_err-lengths_checked
returns-in_err-lengths_checked c =
    passed_on c.from_residual.ensures.1 ∙ stage_refused (keys-lengths c.requires _ _ c.args.bytes c.draw_size.ensures c.lengths_checked.ensures) _ c.in_err-lengths_checked.was

pub returns : goal.returns
returns c = stage_passed (keys-lengths c.requires _ _ c.args.bytes c.draw_size.ensures c.lengths_checked.ensures) c.in_ok-lengths_checked.was c.contents_checked.ensures
