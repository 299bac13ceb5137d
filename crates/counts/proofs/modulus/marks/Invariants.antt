-- `counts::marks` meets its contract: a loop that marks the modulus of each wire. Assumes nothing.
use mathlib.Core.Path.{◌≡◌}
use Rattle.circuit.specs.Wires.{modulus_at}
use Rattle.counts.proofs.Marked.{marked}
use Rattle.counts.proofs.modulus.marks.Given as goal

abbrev pub invariant-loop-wire : goal.invariant-loop-wire
invariant-loop-wire l = l.marks ≡ marked 256 (modulus_at l.wire-items) l.wire-index
