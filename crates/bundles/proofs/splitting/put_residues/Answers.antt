-- `bundles::splitting::put_residues`. Assumes nothing.
use native.Mathlib.Omega.{arith}
use Rattle.lists.proofs.Blocks.{is-tab}
use Rattle.bundles.specs.Integers.{split}
use Rattle.bundles.proofs.splitting.put_residues.Goals as goal

pub returns : goal.returns
unfolding split
returns c = is-tab _ _ c.loop-i.residues 0 c.loop-i.auto.residues (λ k h. c.loop-i.invariant k (omega arith))
