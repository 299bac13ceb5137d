-- `residue::primes::prime_from` meets its contract: the entry at the number's place is the smallest prime from it on. Assumes nothing.
use mathlib.Core.Path.{◌≡◌, ◌∙◌}
use native.Mathlib.Omega.{arith}
use Rattle.std.specs.Prelude.{slice_get}
use Rattle.std.proofs.lemmas.Grind.{common_steps}
use Rattle.std.proofs.lemmas.Option.{gets}
use Rattle.residue.proofs.Moduli.{prime_found}
use Rattle.residue.proofs.primes.prime_from.Goals as goal

pub returns : goal.returns
returns c =
    let read : c.copied.result ≡ slice_get c.prime_table.result c.primes_below.result = grind (arith, common_steps, gets) in
    read ∙ prime_found _ c.prime_table.ensures c.primes_below.ensures
