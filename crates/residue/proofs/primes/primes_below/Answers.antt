-- `residue::primes::primes_below` meets its contract: the library finds where the table's entries cease to be below `x`. Assumes nothing.
use Rattle.std.proofs.Common.{rules, ltb}
use Rattle.std.proofs.lemmas.List.Sorted.{IsPartitionPoint-from_clause, IsPartitionedBy-ltb}
use Rattle.residue.proofs.Moduli.{rising, place_found}
use Rattle.residue.proofs.primes.primes_below.Goals as goal

pub returns : goal.returns
returns c =
    let t = c.prime_table.ensures in
    place_found t c.ranges.x.fits c.partition_point.ensures.bound
    (IsPartitionPoint-from_clause (λ p. ltb p c.args.x) _ _ c.partition_point.ensures.partitioned (IsPartitionedBy-ltb (λ p. p) _ c.args.x (rising t))
    (λ a r q k. search rules))
