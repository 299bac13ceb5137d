-- `bundles::splitting::residue_at`: no prime is 0 or above 29. Assumes nothing.
use native.Mathlib.Nat.{mod-lt}
use native.Mathlib.Omega.{arith}
use Rattle.bundles.proofs.JoinedLaws.{prime-positive, prime-most}
use Rattle.bundles.proofs.splitting.residue_at.Goals as goal

pub nonzero_rem-result : goal.nonzero_rem-result
nonzero_rem-result c = omega (arith, prime-positive c.args.i c.requires)

pub overflow_cast-result : goal.overflow_cast-result
overflow_cast-result c = let i = c.args.i in
    omega (arith, mod-lt c.args.integer {m = c.from.result} (omega (arith, prime-positive i c.requires)), prime-most i c.requires)
