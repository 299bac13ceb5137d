-- `residue::primes::is_modulus` meets its contract: the smallest prime from the number on tells. Assumes nothing.
use mathlib.Core.Path.{refl, ap, ◌∙◌}
use Rattle.std.specs.Prelude.{Some, nat_eq}
use Rattle.std.specs.Option.{option_eq}
use Rattle.residue.proofs.Moduli.{found_tells}
use Rattle.residue.proofs.primes.is_modulus.Goals as goal

pub returns : goal.returns
returns c = c.eq.ensures ∙ ap (λ o. option_eq nat_eq o (Some c.args.p)) c.prime_from.ensures ∙ found_tells c.ranges.p.fits refl
