-- The theorems on figures, of the two-party form: what is decoded is the plain circuit's there too, so its bytes are the residues.
-- Assumes nothing.
use mathlib.Core.Path.{refl, ap, ◌∙◌}
use Rattle.checks.proofs.Passed.{and_then-left}
use Rattle.circuit.specs.File.{read_file}
use Rattle.bundles.specs.Integers.{join}
use Rattle.bundles.proofs.JoinedLaws.{join_any}
use Rattle.bundles.proofs.Verdicts.{part_passed}
use Rattle.pair.specs.Bytes.{selects_checked}
use Rattle.pair_round.specs.Played.{Kept}
use Rattle.pair_round.proofs.Demand.{demand}
use Rattle.integers.specs.Pair.{PairFiguresAreIntegers, PairPooledIsRead}
use Rattle.integers.proofs.Computes.{computes}
use Rattle.integers.proofs.Figures.{bytes_are}

pub pair-figures : PairFiguresAreIntegers
pair-figures file K round draw values meter lent results r first at z conditions played ten carries shown =
    let kept : Kept file K round draw values meter lent results played = demand file K round draw values meter lent results conditions played in
    record {
      decoded = ap (join r) (bytes_are carries shown results.decoded kept.delivers.decoded) ∙ join_any r ten z;
      plain = ap (join r) (bytes_are carries shown results.plain kept.delivers.plain_decoded) ∙ join_any r ten z;
    }

pub pair_pooled : PairPooledIsRead
pair_pooled file K round draw values meter lent results operation r first a x y size at conditions played checks has carried shown =
    pair-figures file K round draw values meter lent results r first at _ conditions played (part_passed operation r first a size refl checks).range.ten
    (computes file values operation r first a x y size (and_then-left (read_file file).answer (selects_checked file) conditions.circuit) checks has carried) shown
