-- `zero::zero::add_first` meets its contract: a multiple by 1, added.
-- Assumes nothing.
use mathlib.Core.Path.{ap, ◌∙◌}
use Prim.Native.Nat.{ℕ}
use lib.ListN.{length}
use Rattle.lists.specs.Blocks.{nth_piece}
use Rattle.residue.specs.Vector.{add_v}
use Rattle.contribution.proofs.Once.{add_once}
use Rattle.zero.proofs.zero.add_first.Goals as goal

pub returns : goal.returns
returns c = c.add_multiple.ensures ∙ add_once _ _ _ ∙ ap (add_v c.args.p c.args.out.now) (c.nth_piece-a.ensures.0 ∙ ap (λ (a : ℕ). nth_piece c.args.keys.now (length c.args.out.now) a) c.from.ensures)
