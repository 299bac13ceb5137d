-- `rehearsal::decode_all` meets its contract: each party's part is lent to its call. Assumes nothing.
use Prim.Native.Nat.{◌-◌}
use native.Mathlib.Omega.{arith}
use Rattle.lists.proofs.Steps.{steps_fits}
use Rattle.rehearsal.proofs.Turns.{DecodeTo, decode_start, decode-next, decode-reads, sheet-reads, decode-all}
use Rattle.rehearsal.proofs.parties.decode_all.Given as goal

abbrev pub invariant-loop-party : goal.invariant-loop-party
invariant-loop-party l = DecodeTo l.file l.n l.externals l.long l.masks l.each l.initial.results l.party l.from l.at l.results

abbrev pub decreases-loop-party : goal.decreases-loop-party
decreases-loop-party l = l.n - l.party
