-- `zero::zero::sum` meets its contract: a key with multiplier 1 is a sum.
-- Assumes nothing.
use mathlib.Core.Path.{ap, ap₂, ◌∙◌}
use Prim.Native.Nat.{ℕ}
use lib.ListN.{length}
use Rattle.lists.specs.Blocks.{nth_piece}
use Rattle.residue.specs.Vector.{add_v}
use Rattle.contribution.proofs.Once.{key_once}
use Rattle.zero.proofs.zero.sum.Goals as goal

pub returns : goal.returns
returns c = c.key_of.ensures ∙ key_once _ _ _ ∙ ap₂ (add_v c.args.p) (c.nth_piece-a.ensures.0 ∙ ap (λ (a : ℕ). nth_piece c.args.keys.now (length c.args.out.now) a) c.from.ensures) (c.nth_piece-b.ensures.0 ∙ ap (λ (b : ℕ). nth_piece c.args.keys.now (length c.args.out.now) b) c.from-2.ensures)
