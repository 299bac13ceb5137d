-- `rehearsal::put_keys_by_input` meets its contract: a loop over inputs, in it a loop over parties, each key copied to the next place. Assumes nothing.
use mathlib.Core.Path.{◌≡◌, refl, sym, ◌∙◌}
use Prim.Native.Nat.{◌-◌, ◌+◌, ◌*◌}
use native.Mathlib.Omega.{arith}
use Rattle.lists.specs.Blocks.{blocks, nth_piece}
use Rattle.lists.proofs.Sums.{times-fits, times-next}
use Rattle.lists.proofs.Steps.{Level, level_start, level_inner, level_nest, level_whole, steps_fits, steps_long, steps_call}
use Rattle.rehearsal.proofs.Interleaved.{key_fits, key-next, key-there}
use Rattle.rehearsal.proofs.hosts.put_keys_by_input.Given as goal

abbrev pub invariant-loop-party : goal.invariant-loop-party
invariant-loop-party l = (l.from ≡ l.w * l.k + l.party * l.each) × Level l.initial.keys l.initial.at l.party l.n l.k (λ each_party. nth_piece (nth_piece l.mine l.each each_party) l.k l.w) l.at l.keys

abbrev pub decreases-loop-party : goal.decreases-loop-party
decreases-loop-party l = l.n - l.party

abbrev pub invariant-loop-w : goal.invariant-loop-w
invariant-loop-w l = (l.first ≡ l.w * l.k) × Level l.initial.keys 0 l.w l.inputs (l.n * l.k) (λ v. blocks l.n (λ party. nth_piece (nth_piece l.mine l.each party) l.k v)) l.at l.keys

abbrev pub decreases-loop-w : goal.decreases-loop-w
decreases-loop-w l = l.inputs - l.w
