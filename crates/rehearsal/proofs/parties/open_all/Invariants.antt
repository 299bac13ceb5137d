-- `rehearsal::open_all` meets its contract: each party's two parts are lent to its call. Assumes nothing.
use Prim.Native.Nat.{◌-◌}
use native.Mathlib.Omega.{arith}
use Rattle.lists.proofs.Steps.{steps_fits}
use Rattle.rehearsal.proofs.Turns.{OpenTo, open_start, open_next, open_reads, open_all}
use Rattle.rehearsal.proofs.parties.open_all.Given as goal

abbrev pub invariant-loop-party : goal.invariant-loop-party
invariant-loop-party l =
    OpenTo l.file l.n l.k l.round l.contributions l.size l.externals l.keys l.rows l.wide l.initial.wkeys l.long l.initial.wexternals l.party l.from l.at l.place l.wkeys l.wexternals

abbrev pub decreases-loop-party : goal.decreases-loop-party
decreases-loop-party l = l.n - l.party
