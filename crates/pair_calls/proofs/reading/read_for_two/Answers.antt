-- `pair_calls::read_for_two` meets its contract: the reader's answer, then the selects'. Assumes nothing.
use mathlib.Core.Path.{sym, ◌∙◌}
use Rattle.checks.proofs.Answers.{passed_on}
use Rattle.pair_calls.proofs.Shared.{refusal_as, two_unread, two_selected}
use Rattle.pair_calls.proofs.reading.read_for_two.Goals as goal

pub returns-in_err-circuit-clause-err : goal.returns-in_err-circuit-clause-err
returns-in_err-circuit-clause-err c = refusal_as _ (passed_on c.from_residual.ensures.1) (two_unread c.args.file.now c.in_err-circuit.ensures.err)

pub returns-in_err-selects_checked-clause-err : goal.returns-in_err-selects_checked-clause-err
returns-in_err-selects_checked-clause-err c =
    refusal_as _ (passed_on c.from_residual-in_err-selects_checked.ensures.1)
    (sym (two_selected c.args.file.now c.in_ok-circuit.ensures.ok c.selects_checked.ensures) ∙ c.in_err-selects_checked.was)

pub returns-clause-ok : goal.returns-clause-ok
returns-clause-ok c =
    record {
      accepted = sym (two_selected c.args.file.now c.in_ok-circuit.ensures.ok c.selects_checked.ensures) ∙ c.in_ok-selects_checked.was;
      holds = c.in_ok-circuit.ensures.ok;
    }
