-- `prices::sheet::put_bad_line` meets its contract. Assumes nothing.
use native.Mathlib.Omega.{arith}
use Rattle.prices.specs.Prices.{printed}
use Rattle.prices.proofs.Texts.{placed-join, number-long}
use Rattle.prices.proofs.sheet.put_bad_line.Goals as goal

pub put_number-requires : goal.put_number-requires
put_number-requires c = omega (arith, c.requires, c.put_text-a.auto.out, c.put_text-a.ensures.ends, number-long c.args.n 10 c.ranges.n.fits)

pub returns : goal.returns
unfolding printed
returns c = placed-join c.put_text-a.ensures c.put_number.ensures
