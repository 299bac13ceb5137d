-- `residue::keys::add_multiple` meets its contract: entry by entry, `out` turns into its sum with the multiple, which is a key of
-- zero key `out` and offset `b`. Assumes nothing.
use mathlib.Core.Path.{◌∙◌, ap}
use Prim.Native.Nat.{ℕ, ◌+◌, ◌*◌}
use native.Mathlib.Nat.{le_refl}
use native.Mathlib.Omega.{arith}
use lib.ListN.{get_or}
use Rattle.residue.specs.Vector.{key_v}
use Rattle.residue.proofs.Vectors.{key_v-length, key-entry}
use Rattle.residue.proofs.InPlace.{turned_none, turned_more, turned-all}
use Rattle.residue.proofs.keys.add_multiple.Goals as goal

pub loop-i-init : goal.loop-i-init
loop-i-init c = turned_none _ _

pub loop-i-preserved : goal.loop-i-preserved
loop-i-preserved c = let so_far = c.loop-i.invariant in
    turned_more so_far (omega (arith, so_far.size)) _
    (key-entry _ _ _ _ _ c.requires.size (omega (arith, so_far.size)) c.reduce.ensures
    (c.multiple_added.ensures ∙ ap (λ (x : ℕ). x + c.args.c * get_or c.args.b.now c.loop-i.i 0) (so_far.ahead _ (le_refl _))))

pub returns : goal.returns
unfolding key_v
returns c = turned-all c.loop-i.invariant (key_v-length _ _ _ _ c.requires.size) (omega (arith, c.loop-i.invariant.size))
