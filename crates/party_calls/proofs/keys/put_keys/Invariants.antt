-- `party_calls::put_keys` meets its contract: a loop that fills the buffer key by key. Assumes nothing.
use Rattle.lists.proofs.Steps.{Level}
use Rattle.scheme.specs.Draw.{drawn}
use Rattle.circuit.specs.Held.{wires_in}
use Rattle.calls.specs.InputKeys.{input_key}
use Rattle.party_calls.proofs.keys.put_keys.Given as goal

abbrev pub invariant-loop-w : goal.invariant-loop-w
invariant-loop-w l = Level l.initial.keys 0 l.w l.circuit.inputs l.k (input_key (wires_in l.circuit) (drawn 1 l.k (wires_in l.circuit) l.contribution) l.externals) l.at l.keys
