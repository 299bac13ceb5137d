-- `party_calls::own_moduli` meets its contract: a loop that fills the table with the inputs that the party owns. Assumes nothing.
use native.Mathlib.Omega.{arith}
use Rattle.party_calls.proofs.TableLoops.{wires_few, own_start, own-step, own-front}
use Rattle.party_calls.proofs.tables.own_moduli.Goals as goal

pub loop-wire-init : goal.loop-wire-init
loop-wire-init c = own_start c.args.party _ c.scratch-out.ensures

pub loop-wire-preserved : goal.loop-wire-preserved
loop-wire-preserved c = own-step c.args.party _ (wires_few c.requires) c.loop-wire.invariant c.loop-wire-test.true c.owned.ensures

pub returns : goal.returns
returns c = own-front c.args.party _ c.loop-wire.invariant (omega arith) c.loop-wire-test.false
