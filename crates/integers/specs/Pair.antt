-- Document 02, order 5, "wherever figures are promised", of the two-party form of order 8: whoever decodes what was opened reads the integer result modulo the
-- product.
-- Assumes nothing.
use Rattle.std.specs.Prelude.{◌≡◌, List, ℕ, ◌%◌, ◌≤◌}
use Rattle.lists.specs.Blocks.{part}
use Rattle.meter.specs.Meter.{Charge}
use Rattle.words.specs.Encode.{file_of}
use Rattle.circuit.specs.File.{read_file}
use Rattle.bundles.specs.declared.operation.Operation.{Operation}
use Rattle.bundles.specs.Primes.{product}
use Rattle.bundles.specs.Integers.{join}
use Rattle.bundles.specs.Part.{part_words}
use Rattle.bundles.specs.Call.{part_checked}
use Rattle.pair_round.specs.Round.{Lent}
use Rattle.pair_round.specs.Claim.{Conditions}
use Rattle.pair_round.specs.Played.{Results, Played}
use Rattle.integers.specs.Reach.{Has}
use Rattle.integers.specs.Bundle.{Carries, Carried, result}
use Rattle.integers.specs.Promise.{Shown}
use Rattle.checks.specs.Answer.{accepts}

-- the decoded bytes of a bundle, joined, are an integer modulo the product; and so are those of plain evaluation
pub record PairRead (results : Results) (r at z : ℕ) : Type 0 where
  pub decoded : join r (part results.decoded at r) ≡ z % product r
  pub plain : join r (part results.plain at r) ≡ z % product r

-- of a bundle that outputs show: the integer that it carries
abbrev pub PairFiguresAreIntegers : Type 0
PairFiguresAreIntegers =
    (file : List ℕ) (K round : ℕ) (draw values : List ℕ) (meter : Charge) (lent : Lent) (results : Results) (r first at z : ℕ)
    → Conditions file K draw values meter lent
    → Played file K round draw values meter lent results
    → r ≤ 10
    → Carries file values r first z
    → Shown (read_file file).outputs at r first
    → PairRead results r at z

-- of a part: the result
abbrev pub PairPooledIsRead : Type 0
PairPooledIsRead =
    (file : List ℕ) (K round : ℕ) (draw values : List ℕ) (meter : Charge) (lent : Lent) (results : Results)
    (operation : Operation) (r first a x y size at : ℕ)
    → Conditions file K draw values meter lent
    → Played file K round draw values meter lent results
    → part_checked operation r first a size ≡ accepts
    → Has file first (file_of (part_words operation r a))
    → Carried file values r a x y operation
    → Shown (read_file file).outputs at r first
    → PairRead results r at (result operation x y)
