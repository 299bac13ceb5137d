-- `prices::listing::put_listing` meets its contract. Assumes nothing.
use mathlib.Core.Path.{◌∙◌}
use native.Mathlib.Omega.{arith}
use Rattle.circuit.specs.Held.{wires_in}
use Rattle.prices.proofs.Texts.{number_short}
use Rattle.prices.proofs.Table.{put_listing}
use Rattle.prices.proofs.listing.put_listing.Goals as goal

pub put_number-requires : goal.put_number-requires
put_number-requires c = omega (arith, c.requires.1, c.put_text-a.auto.out, c.put_text-a.ensures.ends, c.put_wires-b.auto.out, c.put_wires-b.ensures.most, c.put_text-c.auto.out, c.put_text-c.ensures.ends, number_short 5 c.from.result 10 (omega (arith, c.from.ensures, c.rows-total.ensures.most)))

pub returns : goal.returns
returns c = put_listing (wires_in c.args.circuit) c.from.result (c.from.ensures ∙ c.rows-total.ensures.is) c.put_text-a.ensures c.put_wires-b.ensures.placed c.put_text-c.ensures c.put_number.ensures
