-- `prices::text::put_number` meets its contract. Assumes nothing.
use native.Mathlib.Omega.{arith}
use Rattle.prices.specs.Decimal.{decimal}
use Rattle.prices.proofs.Texts.{placed_char, length_char}
use Rattle.prices.proofs.text.put_number.Goals as goal

pub put_decimal-end-requires : goal.put_decimal-end-requires
put_decimal-end-requires c = omega (arith, length_char (decimal c.args.n) c.args.behind)

pub bounds-out-end : goal.bounds-out-end
bounds-out-end c = omega (arith, c.requires, c.put_decimal-end.ensures.ends, c.put_decimal-end.auto.out, length_char (decimal c.args.n) c.args.behind)

pub overflow_add-result : goal.overflow_add-result
overflow_add-result c = omega (arith, c.requires, c.put_decimal-end.ensures.ends, c.well_formed.0.0, length_char (decimal c.args.n) c.args.behind)

pub returns : goal.returns
returns c = placed_char c.put_decimal-end.ensures c.args.behind (omega (arith, c.requires, c.put_decimal-end.ensures.ends, length_char (decimal c.args.n) c.args.behind))
