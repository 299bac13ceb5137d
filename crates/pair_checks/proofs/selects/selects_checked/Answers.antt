-- `pair_checks::selects_checked` meets its contract: refused at the place that was found. Assumes nothing.
use mathlib.Core.Path.{sym, ◌∙◌}
use Rattle.checks.specs.declared.Refusal.TheVariants.{SelectPresent}
use Rattle.checks.proofs.Answers.{refused_at}
use Rattle.circuit.specs.File.{words_in}
use Rattle.pair.specs.Bytes.{is_select_word, selects_checked}
use Rattle.pair_checks.proofs.Placed.{placed, placed_none}
use Rattle.pair_checks.proofs.selects.selects_checked.Goals as goal

pub returns-in-Some : goal.returns-in-Some
unfolding selects_checked
returns-in-Some c = refused_at c.at.ensures
    ∙ placed (words_in c.args.file.now) (is_select_word c.args.file.now) SelectPresent (sym c.first_select.ensures ∙ c.in-Some.is)

pub returns-in-None : goal.returns-in-None
unfolding selects_checked
returns-in-None c = placed_none (words_in c.args.file.now) (is_select_word c.args.file.now) SelectPresent (sym c.first_select.ensures ∙ c.in-None.is)
