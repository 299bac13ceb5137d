-- `prices::listing::put_wire` meets its contract. Assumes nothing.
use mathlib.Core.Path.{ap, ap₂, ◌∙◌}
use Prim.Native.Nat.{ℕ}
use Rattle.counts.specs.Kinds.{kind_of}
use Rattle.prices.specs.Prices.{line_of}
use Rattle.prices.proofs.Table.{within_as}
use Rattle.prices.proofs.listing.put_wire.Goals as goal

pub returns : goal.returns
returns c =
    within_as c.put_line.ensures
    (ap₂ (λ (k p : ℕ). line_of c.args.w k p c.from.result) c.kind_of-kind.ensures.0 c.from-modulus.ensures
    ∙ ap (λ (n : ℕ). line_of c.args.w (kind_of c.args.wire.gate) c.args.wire.modulus n) c.from.ensures)
