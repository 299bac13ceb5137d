-- `search::multipliers::component` meets its contract: one reduction of the sum with the whole product.
-- Assumes nothing.
use mathlib.Core.Path.{ap, ◌∙◌}
use Prim.Native.Nat.{ℕ, ◌%◌}
use Rattle.residue.proofs.Reduced.{add_multiple}
use Rattle.search.proofs.multipliers.component.Goals as goal

pub returns : goal.returns
returns c = let args = c.args in
    c.reduce.ensures
    ∙ ap (λ (n : ℕ). n % args.p) c.multiple_added.ensures
    ∙ add_multiple args.p args.zero args.e args.offset
