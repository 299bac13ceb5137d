-- `read_calls::inputs_of` meets its contract: the checks in their order, and the count. Assumes nothing.
use mathlib.Core.Path.{sym, ◌∙◌}
use Rattle.checks.proofs.Answers.{and_then_stop, stage_passed, stage_refused, passed_on}
use Rattle.counts.specs.Counts.{inputs_of}
use Rattle.read_calls.specs.InputsOf.{inputs_of_checked}
use Rattle.read_calls.proofs.Counting.{checks_met, counted}
use Rattle.read_calls.proofs.inputs.inputs_of.Goals as goal

pub returns-in_err-circuit-clause-err : goal.returns-in_err-circuit-clause-err
unfolding inputs_of_checked
returns-in_err-circuit-clause-err c = rw (passed_on c.from_residual.ensures.1) (sym (and_then_stop _ c.in_err-circuit.ensures.err))

pub returns-in_err-parties_checked-clause-err : goal.returns-in_err-parties_checked-clause-err
returns-in_err-parties_checked-clause-err c = rw (passed_on c.from_residual-in_err-parties_checked.ensures.1) (sym (checks_met _ _ _ c.in_ok-circuit.ensures.ok (stage_refused c.parties_checked.ensures _ c.in_err-parties_checked.was)))

pub returns-in_err-party_checked-clause-err : goal.returns-in_err-party_checked-clause-err
returns-in_err-party_checked-clause-err c = rw (passed_on c.from_residual-in_err-party_checked.ensures.1) (sym (checks_met _ _ _ c.in_ok-circuit.ensures.ok (stage_passed c.parties_checked.ensures c.in_ok-parties_checked.was (stage_refused c.party_checked.ensures _ c.in_err-party_checked.was))))

pub returns-in_err-partakers_checked-clause-err : goal.returns-in_err-partakers_checked-clause-err
returns-in_err-partakers_checked-clause-err c = rw (passed_on c.from_residual-in_err-partakers_checked.ensures.1) (sym (checks_met _ _ _ c.in_ok-circuit.ensures.ok (stage_passed c.parties_checked.ensures c.in_ok-parties_checked.was (stage_passed c.party_checked.ensures c.in_ok-party_checked.was (sym c.in_err-partakers_checked.was ∙ c.partakers_checked.ensures)))))

pub returns-clause-ok : goal.returns-clause-ok
returns-clause-ok c = let h = c.in_ok-circuit.ensures.ok in
    record {
      accepted = sym (checks_met c.args.file.now c.args.n c.args.party h (stage_passed c.parties_checked.ensures c.in_ok-parties_checked.was (stage_passed c.party_checked.ensures c.in_ok-party_checked.was (sym c.in_ok-partakers_checked.was ∙ c.partakers_checked.ensures))));
      is = counted h (inputs_of c.args.party) c.inputs_of.ensures;
    }
