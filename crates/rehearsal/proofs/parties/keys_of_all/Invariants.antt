-- `rehearsal::keys_of_all` meets its contract: each party's part is lent to its call. Assumes nothing.
use Prim.Native.Nat.{◌-◌}
use native.Mathlib.Omega.{arith}
use Rattle.lists.proofs.Steps.{steps_fits}
use Rattle.rehearsal.proofs.Turns.{KeysTo, keys_start, keys-next, keys-reads, keys-all}
use Rattle.rehearsal.proofs.parties.keys_of_all.Given as goal

abbrev pub invariant-loop-party : goal.invariant-loop-party
invariant-loop-party l = KeysTo l.file l.n l.k l.contributions l.size l.externals l.each l.initial.mine l.party l.from l.at l.mine

abbrev pub decreases-loop-party : goal.decreases-loop-party
decreases-loop-party l = l.n - l.party
