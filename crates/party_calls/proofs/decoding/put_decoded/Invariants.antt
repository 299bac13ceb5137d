-- `party_calls::put_decoded` meets its contract: a loop that fills the buffer output by output. Assumes nothing.
use Rattle.lists.proofs.Filled.{Filled}
use Rattle.party_calls.specs.Decoding.{made_by}
use Rattle.party_calls.proofs.decoding.put_decoded.Given as goal

abbrev pub invariant-loop-i : goal.invariant-loop-i
invariant-loop-i l = Filled l.initial.results l.i l.circuit.given (made_by l.circuit l.party l.externals l.masks) l.results
