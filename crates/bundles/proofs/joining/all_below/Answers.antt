-- `bundles::joining::all_below`. Assumes nothing.
use native.Mathlib.Omega.{arith}
use lib.ListN.{length}
use Rattle.bundles.proofs.JoinedLaws.{below_none, below_more, below_fails, below-done}
use Rattle.bundles.proofs.joining.all_below.Goals as goal

pub loop-i-init : goal.loop-i-init
loop-i-init c = below_none c.args.residues.now

pub returns-then-prime-byte : goal.returns-then-prime-byte
returns-then-prime-byte c = let xs = c.args.residues.now in below_fails xs (length xs) c.loop-i.i (omega arith) (omega arith)

pub loop-i-preserved : goal.loop-i-preserved
loop-i-preserved c = below_more c.args.residues.now c.loop-i.i c.loop-i.invariant (omega arith)

pub returns : goal.returns
returns c = below-done c.args.residues.now (omega arith) (omega arith) c.loop-i.invariant
