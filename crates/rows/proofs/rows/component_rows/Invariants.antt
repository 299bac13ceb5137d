-- `rows::rows::component_rows` meets its contract: one row after another.
-- Assumes nothing.
use Prim.Native.Nat.{◌*◌}
use lib.ListN.{get_or}
use Rattle.lists.proofs.Steps.{Level}
use Rattle.residue.specs.Vector.{key_v}
use Rattle.rows.specs.Made.{row_of}
use Rattle.rows.proofs.rows.component_rows.Given as goal

abbrev pub invariant-loop-alpha : goal.invariant-loop-alpha
invariant-loop-alpha l = Level l.initial.out 0 l.alpha l.row.bound.modulus (l.row.n * l.row.k) (λ α. row_of l.row (key_v l.row.bound.modulus l.keys.base.now α l.keys.step.now) (key_v l.row.q l.messages.base.now (get_or l.factors α 0) l.messages.step.now)) l.at l.out
