-- `circuit::reader::read` meets its contract. The loop's invariant is `Loop` of proofs/Turn.antt, and the answers are its laws,
-- one for each thing that a word can do. The measure is the number of words that are left.
-- Assumes nothing.
use mathlib.Core.Path.{◌≡◌}
use Prim.Native.Nat.{◌-◌}
use Rattle.circuit.specs.File.{words_in}
use Rattle.circuit.proofs.Turn.{Loop}
use Rattle.circuit.proofs.reader.read.Given as goal

abbrev pub invariant-loop-at : goal.invariant-loop-at
invariant-loop-at l =
    (l.words ≡ words_in l.file) × Loop l.file l.circuit.wires l.moduli l.circuit.outputs l.made l.inputs l.given l.due l.at

abbrev pub decreases-loop-at : goal.decreases-loop-at
decreases-loop-at l = l.words - l.at
