-- `prices::line::digits_at` meets its contract. Assumes nothing.
use mathlib.Core.Path.{◌∙◌}
use native.Mathlib.Omega.{arith}
use lib.ListN.{drop}
use Rattle.prices.proofs.Hex.{hex_end, hex_bad, hex_next, hex_none}
use Rattle.prices.proofs.line.digits_at.Goals as goal

pub returns-then-text-i : goal.returns-then-text-i
returns-then-text-i c = hex_end c.loop-left.left c.loop-left.i c.args.text.now c.loop-left-test.true c.if-text-i.true ∙ c.loop-left.invariant

pub returns-then-hex_value-ge16 : goal.returns-then-hex_value-ge16
returns-then-hex_value-ge16 c = hex_bad c.loop-left.left c.loop-left.i c.args.text.now c.loop-left-test.true c.if-text-i.false (omega (arith, c.if-hex_value-ge16.true, c.hex_value.ensures)) ∙ c.loop-left.invariant

pub loop-left-preserved : goal.loop-left-preserved
loop-left-preserved c = hex_next c.loop-left.left c.loop-left.i c.args.text.now c.loop-left-test.true c.if-text-i.false (omega (arith, c.if-hex_value-ge16.false, c.hex_value.ensures)) ∙ c.loop-left.invariant

pub returns : goal.returns
returns c = hex_none c.loop-left.left (drop c.loop-left.i c.args.text.now) c.loop-left-test.false ∙ c.loop-left.invariant
