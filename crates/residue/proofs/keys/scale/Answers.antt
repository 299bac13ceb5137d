-- `residue::keys::scale` meets its contract: entry by entry, `out` turns into the multiple. Assumes nothing.
use mathlib.Core.Path.{◌∙◌, ap}
use Prim.Native.Nat.{ℕ, ◌+◌, ◌*◌}
use native.Mathlib.Nat.{le_refl}
use native.Mathlib.Omega.{arith}
use Rattle.residue.proofs.Vectors.{mul_v-length, multiple_entry}
use Rattle.residue.proofs.InPlace.{turned_none, turned_more, turned-all}
use Rattle.residue.proofs.keys.scale.Goals as goal

pub loop-x-init : goal.loop-x-init
loop-x-init c = turned_none _ _

pub loop-x-preserved : goal.loop-x-preserved
loop-x-preserved c = let so_far = c.loop-x.invariant in
    turned_more so_far (omega (arith, so_far.size)) _
    (multiple_entry _ _ _ _ (omega (arith, so_far.size)) c.reduce.ensures (c.multiple_added.ensures ∙ ap (λ (x : ℕ). 0 + c.args.c * x) (so_far.ahead _ (le_refl _))))

pub returns : goal.returns
returns c = turned-all c.loop-x.invariant (mul_v-length _ _ _) (omega (arith, c.loop-x.invariant.size))
