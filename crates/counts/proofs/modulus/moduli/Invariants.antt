-- `counts::moduli` meets its contract: a loop that fills the table wire by wire. Assumes nothing.
use lib.ListN.{length}
use Rattle.circuit.specs.Wires.{moduli_of}
use Rattle.lists.proofs.Filled.{Filled}
use Rattle.counts.proofs.modulus.moduli.Given as goal

abbrev pub invariant-loop-w : goal.invariant-loop-w
invariant-loop-w l = Filled l.initial.moduli l.w (length l.wire-items) (moduli_of l.wire-items) l.moduli
