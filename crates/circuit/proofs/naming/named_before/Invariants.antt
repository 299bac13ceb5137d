-- `circuit::naming::named_before` meets its contract: a loop that fills the array word by word.
-- Assumes nothing.
use Rattle.circuit.proofs.Lookback.{Naming}
use Rattle.circuit.proofs.naming.named_before.Given as goal

abbrev pub invariant-loop-i : goal.invariant-loop-i
invariant-loop-i l = Naming l.file l.first l.i l.named
