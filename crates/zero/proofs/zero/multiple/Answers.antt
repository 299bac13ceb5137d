-- `zero::zero::multiple` meets its contract: the copy, multiplied.
-- Assumes nothing.
use mathlib.Core.Path.{ap, ◌∙◌}
use Prim.Native.Nat.{ℕ}
use lib.ListN.{length}
use Rattle.lists.specs.Blocks.{nth_piece}
use Rattle.residue.specs.Vector.{mul_v}
use Rattle.zero.proofs.zero.multiple.Goals as goal

pub returns : goal.returns
returns c = c.scale.ensures ∙ ap (mul_v c.args.p c.args.gate.constant) (c.copy_from_slice.ensures.after ∙ c.nth_piece-a.ensures.0 ∙ ap (λ (a : ℕ). nth_piece c.args.keys.now (length c.args.out.now) a) c.from.ensures)
