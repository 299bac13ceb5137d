-- `party_calls::output_moduli` meets its contract: a loop that fills the table output by output. Assumes nothing.
use mathlib.Core.Path.{◌∙◌}
use native.Mathlib.Omega.{arith}
use Rattle.session.proofs.Circuits.{given_is}
use Rattle.party_calls.proofs.TableLoops.{front-moduli, front_same, outputs_start, outputs-step, outputs-front}
use Rattle.party_calls.proofs.tables.output_moduli.Goals as goal

pub loop-i-init : goal.loop-i-init
loop-i-init c = outputs_start _ _ (omega (arith, given_is c.requires, c.requires.given)) c.scratch-out.ensures

pub loop-i-preserved : goal.loop-i-preserved
loop-i-preserved c = outputs-step _ _ c.loop-i.invariant c.loop-i-test.true (c.modulus_of.ensures ∙ front-moduli c.requires.room c.moduli-table.ensures _)

pub returns : goal.returns
returns c = front_same (given_is c.requires) (outputs-front _ _ c.scratch-out.ensures c.loop-i.invariant c.loop-i-test.false)
