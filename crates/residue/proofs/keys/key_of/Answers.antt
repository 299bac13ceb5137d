-- `residue::keys::key_of` meets its contract: entry by entry, `out` turns into the key. Assumes nothing.
use mathlib.Core.Path.{◌∙◌, sym}
use native.Mathlib.Omega.{arith}
use Rattle.residue.proofs.Vectors.{key_v-length, key-entry}
use Rattle.residue.proofs.InPlace.{turned_none, turned_more, turned-all}
use Rattle.residue.proofs.keys.key_of.Goals as goal

pub loop-i-init : goal.loop-i-init
loop-i-init c = turned_none _ _

pub loop-i-preserved : goal.loop-i-preserved
loop-i-preserved c = let so_far = c.loop-i.invariant in
    turned_more so_far (omega (arith, so_far.size)) _
    (key-entry _ _ _ _ _ c.requires.aligned.size (omega (arith, c.requires.out_len, so_far.size)) c.reduce.ensures c.multiple_added.ensures)

pub returns : goal.returns
returns c = turned-all c.loop-i.invariant (key_v-length _ _ _ _ c.requires.aligned.size ∙ sym c.requires.out_len) (omega (arith, c.loop-i.invariant.size))
