-- `bundles::primes::prime`: the table has it at its place. Assumes nothing.
use native.Mathlib.Omega.{arith}
use Rattle.bundles.proofs.JoinedLaws.{prime-at}
use Rattle.bundles.proofs.primes.prime.Goals as goal

pub returns : goal.returns
returns c = let i = c.args.i in prime-at i c.requires (c.prime_table-table.ensures.entry i (omega arith))
