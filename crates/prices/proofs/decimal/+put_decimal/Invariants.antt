-- `prices::decimal::put_decimal`: the measure is the number, since the call of itself is for all digits but the last.
-- Assumes nothing.
use Rattle.prices.proofs.decimal.+put_decimal.Given as goal

abbrev pub decreases-put_decimal : goal.decreases-put_decimal
decreases-put_decimal l = l.n
