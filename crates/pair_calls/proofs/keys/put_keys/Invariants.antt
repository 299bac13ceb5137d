-- `pair_calls::put_keys` meets its contract: a loop that fills the buffer key by key. Assumes nothing.
use Rattle.lists.proofs.Steps.{Level}
use Rattle.circuit.specs.Held.{wires_in}
use Rattle.pair.specs.InputKeys.{pair_input_key}
use Rattle.pair_calls.proofs.keys.put_keys.Given as goal

abbrev pub invariant-loop-w : goal.invariant-loop-w
invariant-loop-w l = Level l.initial.keys 0 l.w l.circuit.inputs l.k (pair_input_key l.k (wires_in l.circuit) l.draw l.values) l.at l.keys
