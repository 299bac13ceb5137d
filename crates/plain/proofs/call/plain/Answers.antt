-- `plain::plain` meets its contract: refused by the reader or by a check, nothing is written; accepted, what evaluation wrote. Assumes nothing.
use Rattle.checks.proofs.Answers.{passed_on}
use Rattle.session.proofs.Circuits.{held_of}
use Rattle.plain.proofs.Ending.{unread, call_met, feeds_of, ends-refused, ends-written}
use mathlib.Core.Path.{◌∙◌}
use Rattle.plain.proofs.call.plain.Goals as goal

pub returns-in_err-circuit : goal.returns-in_err-circuit
returns-in_err-circuit c = ends-refused c.args.file.now c.args.values.now c.args.outputs.now (passed_on c.from_residual.ensures.1) (unread c.args.file.now c.args.values.now c.args.outputs.now c.in_err-circuit.ensures.err)

pub checked-requires : goal.checked-requires
checked-requires c = held_of c.in_ok-circuit.ensures.ok

pub returns-in_err-checked : goal.returns-in_err-checked
returns-in_err-checked c = ends-refused c.args.file.now c.args.values.now c.args.outputs.now (passed_on c.from_residual-in_err-checked.ensures.1) (call_met c.args.file.now c.args.values.now c.args.outputs.now c.in_ok-circuit.ensures.ok c.checked.ensures ∙ c.in_err-checked.was)

pub evaluate-requires : goal.evaluate-requires
evaluate-requires c = feeds_of c.args.file.now c.args.values.now c.args.outputs.now c.in_ok-circuit.ensures.ok c.checked.ensures c.in_ok-checked.was

pub returns : goal.returns
returns c = ends-written c.args.file.now c.args.values.now c.args.outputs.now c.in_ok-circuit.ensures.ok c.checked.ensures c.in_ok-checked.was c.evaluate.ensures
