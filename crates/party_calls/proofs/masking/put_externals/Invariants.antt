-- `party_calls::put_externals` meets its contract: a loop that fills the buffer input by input. Assumes nothing.
use lib.ListN.{length}
use Rattle.lists.proofs.Filled.{Filled}
use Rattle.party_calls.proofs.OwnExternals.{by_table}
use Rattle.party_calls.proofs.masking.put_externals.Given as goal

abbrev pub invariant-loop-i : goal.invariant-loop-i
invariant-loop-i l = Filled l.initial.externals l.i (length l.values) (by_table l.table l.values l.masks) l.externals
