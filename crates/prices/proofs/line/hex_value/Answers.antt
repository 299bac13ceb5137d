-- `prices::line::hex_value` meets its contract: one answer for each range that the character is in, or between.
-- Assumes nothing.
use native.Mathlib.Omega.{arith}
use Rattle.prices.specs.Lines.{hex_value}
use Rattle.prices.proofs.Hex.{inside, below, above}
use Rattle.prices.proofs.line.hex_value.Goals as goal

pub returns-in-48-to-57 : goal.returns-in-48-to-57
unfolding hex_value
returns-in-48-to-57 c = rw (inside 48 57 c.args.c (omega arith) (omega arith))

pub returns-in-65-to-70 : goal.returns-in-65-to-70
unfolding hex_value
returns-in-65-to-70 c = rw (above 48 57 c.args.c (omega arith), inside 65 70 c.args.c (omega arith) (omega arith)) (omega arith)

pub returns-in-97-to-102 : goal.returns-in-97-to-102
unfolding hex_value
returns-in-97-to-102 c = rw (above 48 57 c.args.c (omega arith), above 65 70 c.args.c (omega arith), inside 97 102 c.args.c (omega arith) (omega arith)) (omega arith)

pub returns-in_default : goal.returns-in_default
unfolding hex_value
returns-in_default c = rw (below 48 57 c.args.c (omega arith), below 65 70 c.args.c (omega arith), below 97 102 c.args.c (omega arith))

pub returns-in_default-2 : goal.returns-in_default-2
unfolding hex_value
returns-in_default-2 c = rw (above 48 57 c.args.c (omega arith), below 65 70 c.args.c (omega arith), below 97 102 c.args.c (omega arith))

pub returns-in_default-3 : goal.returns-in_default-3
unfolding hex_value
returns-in_default-3 c = rw (above 48 57 c.args.c (omega arith), above 65 70 c.args.c (omega arith), below 97 102 c.args.c (omega arith))

pub returns-in_default-4 : goal.returns-in_default-4
unfolding hex_value
returns-in_default-4 c = rw (above 48 57 c.args.c (omega arith), above 65 70 c.args.c (omega arith), above 97 102 c.args.c (omega arith))
