-- `circuit::naming::named_before` meets its contract: a loop that fills the array word by word.
-- Assumes nothing.
use mathlib.Core.Path.{refl, ◌∙◌, ap}
use native.Mathlib.Omega.{arith}
use Rattle.words.specs.Bits.{named}
use Rattle.circuit.proofs.Lookback.{naming_start, naming_step, naming_whole}
use Rattle.circuit.proofs.naming.named_before.Goals as goal

pub loop-i-init : goal.loop-i-init
loop-i-init c = naming_start c.zeros-named.ensures

pub loop-i-preserved : goal.loop-i-preserved
loop-i-preserved c = naming_step c.loop-i.invariant (omega arith) (c.named_by.ensures ∙ ap named c.word_at.ensures)

pub returns : goal.returns
returns c = naming_whole c.loop-i.invariant refl (omega arith)
