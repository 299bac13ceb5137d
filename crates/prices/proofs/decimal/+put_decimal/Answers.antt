-- `prices::decimal::put_decimal` meets its contract: a number has one digit, or those of its tenth and one more.
-- Assumes nothing.
use Rattle.std.proofs.Common.{arith}
use Rattle.prices.proofs.Digits.{length-small, length_large}
use Rattle.prices.proofs.Texts.{put_small, put_large}
use Rattle.prices.proofs.decimal.+put_decimal.Goals as goal

pub bounds-out-at : goal.bounds-out-at
bounds-out-at t c = omega (arith, length-small c.args.n c.if-n-lt10.true)

pub put_decimal-last-requires : goal.put_decimal-last-requires
put_decimal-last-requires t c = (omega (arith, c.decreases), omega (arith, length_large c.args.n c.if-n-lt10.false c.ranges.n.fits))

pub bounds-out-last : goal.bounds-out-last
bounds-out-last t c = omega (arith, c.put_decimal-last.ensures.ends, c.put_decimal-last.auto.out, length_large c.args.n c.if-n-lt10.false c.ranges.n.fits)

pub returns-then-n-lt10 : goal.returns-then-n-lt10
returns-then-n-lt10 t c = put_small c.args.n c.digit.result c.if-n-lt10.true c.digit.ensures c.requires

pub returns-else-n-lt10 : goal.returns-else-n-lt10
returns-else-n-lt10 t c =
    put_large c.args.n c.digit-else-n-lt10.result c.if-n-lt10.false c.ranges.n.fits c.requires c.put_decimal-last.ensures c.digit-else-n-lt10.ensures
