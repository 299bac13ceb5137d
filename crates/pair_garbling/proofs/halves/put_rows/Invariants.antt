-- `pair_garbling::halves::put_rows` meets its contract: one row after another, each under the key that is one offset further.
-- Assumes nothing.
use Prim.Native.Nat.{suc, ◌-◌}
use lib.ListN.{get_or}
use Rattle.lists.proofs.Steps.{Level}
use Rattle.residue.specs.Vector.{key_v}
use Rattle.pair_garbling.specs.Halves.{row_under}
use Rattle.pair_garbling.proofs.Made.{Stepping}
use Rattle.pair_garbling.proofs.halves.put_rows.Given as goal

abbrev pub invariant-loop-factor : goal.invariant-loop-factor
invariant-loop-factor l = Stepping l.half.at l.initial.work l.half.offset.now l.factor-index l.work × Level l.initial.out 0 l.factor-index (l.half.at.under - 1) l.half.at.k (λ j. row_under l.half.at (key_v l.half.at.under l.initial.work (suc j) l.half.offset.now) (key_v l.half.at.modulus l.key (get_or l.fn.factors (suc j) 0) l.half.vector.now)) l.from l.out
