-- `prices::line::digits_at` meets its contract. Assumes nothing.
use mathlib.Core.Path.{◌≡◌}
use lib.ListN.{drop}
use Rattle.prices.specs.Lines.{hex_digits}
use Rattle.prices.proofs.line.digits_at.Given as goal

abbrev pub invariant-loop-left : goal.invariant-loop-left
invariant-loop-left l = hex_digits l.left (drop l.i l.text) ≡ hex_digits 8 (drop l.at l.text)

abbrev pub decreases-loop-left : goal.decreases-loop-left
decreases-loop-left l = l.left
