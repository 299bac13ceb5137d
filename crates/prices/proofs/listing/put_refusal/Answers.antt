-- `prices::listing::put_refusal` meets its contract. Assumes nothing.
use mathlib.Core.Path.{◌∙◌}
use native.Mathlib.Omega.{arith}
use Rattle.prices.proofs.Texts.{number-long}
use Rattle.prices.proofs.Table.{put_refusal}
use Rattle.prices.proofs.listing.put_refusal.Goals as goal

pub put_number-b-requires : goal.put_number-b-requires
put_number-b-requires c = omega (arith, c.requires, c.put_text-a.auto.out, c.put_text-a.ensures.ends, number-long c.from.result 32 (omega (arith, c.from.ensures, c.from-number.type_inv)))

pub put_text-c-requires : goal.put_text-c-requires
put_text-c-requires c = omega (arith, c.requires, c.put_text-a.auto.out, c.put_text-a.ensures.ends, c.put_number-b.auto.out, c.put_number-b.ensures.ends, number-long c.from.result 32 (omega (arith, c.from.ensures, c.from-number.type_inv)))

pub put_number-requires : goal.put_number-requires
put_number-requires c = omega (arith, c.requires, c.put_text-a.auto.out, c.put_text-a.ensures.ends, c.put_number-b.auto.out, c.put_number-b.ensures.ends, c.put_text-c.auto.out, c.put_text-c.ensures.ends, number-long c.from.result 32 (omega (arith, c.from.ensures, c.from-number.type_inv)), number-long c.args.place 10 c.ranges.place.fits)

pub returns : goal.returns
returns c = put_refusal c.args.place (c.from.ensures ∙ c.from-number.ensures) c.put_text-a.ensures c.put_number-b.ensures c.put_text-c.ensures c.put_number.ensures
