-- `party_calls::own_moduli` meets its contract: a loop that fills the table with the inputs that the party owns. Assumes nothing.
use Rattle.party_calls.proofs.TableLoops.{OwnTo}
use Rattle.party_calls.proofs.tables.own_moduli.Given as goal

abbrev pub invariant-loop-wire : goal.invariant-loop-wire
invariant-loop-wire l = OwnTo l.party l.wire-items l.wire-index l.count l.out
