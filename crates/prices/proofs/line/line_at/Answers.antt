-- `prices::line::line_at` meets its contract. Assumes nothing.
use mathlib.Core.Path.{sym, ap, ◌∙◌}
use native.Mathlib.Omega.{arith}
use lib.ListN.{drop}
use lib.Seq.{drop-drop}
use Rattle.prices.specs.Lines.{line_ends}
use Rattle.prices.proofs.Hex.{digit_at}
use Rattle.prices.proofs.Words.{line_good, line_short, line_long}
use Rattle.prices.proofs.line.line_at.Goals as goal

pub overflow_add-at : goal.overflow_add-at
overflow_add-at c = omega (arith, (digit_at c.args.at c.args.text.now (sym c.digits_at.ensures ∙ c.if-digits_at.true) 7 (omega arith)).there)

pub byte_at-a-requires : goal.byte_at-a-requires
byte_at-a-requires c = (sym c.digits_at.ensures ∙ c.if-digits_at.true, omega arith)

pub byte_at-b-requires : goal.byte_at-b-requires
byte_at-b-requires c = (sym c.digits_at.ensures ∙ c.if-digits_at.true, omega arith)

pub byte_at-c-requires : goal.byte_at-c-requires
byte_at-c-requires c = (sym c.digits_at.ensures ∙ c.if-digits_at.true, omega arith)

pub byte_at-d-requires : goal.byte_at-d-requires
byte_at-d-requires c = (sym c.digits_at.ensures ∙ c.if-digits_at.true, omega arith)

pub returns-then-ends_at : goal.returns-then-ends_at
returns-then-ends_at c = line_good (drop c.args.at c.args.text.now) (sym c.digits_at.ensures ∙ c.if-digits_at.true) (ap line_ends (drop-drop 8 c.args.at c.args.text.now) ∙ sym c.ends_at.ensures ∙ c.if-ends_at.true) c.byte_at-a.ensures c.byte_at-b.ensures c.byte_at-c.ensures c.byte_at-d.ensures

pub returns-else-ends_at : goal.returns-else-ends_at
returns-else-ends_at c = line_long (drop c.args.at c.args.text.now) (sym c.digits_at.ensures ∙ c.if-digits_at.true) (ap line_ends (drop-drop 8 c.args.at c.args.text.now) ∙ sym c.ends_at.ensures ∙ c.if-ends_at.false)

pub returns-else-digits_at : goal.returns-else-digits_at
returns-else-digits_at c = line_short (drop c.args.at c.args.text.now) (sym c.digits_at.ensures ∙ c.if-digits_at.false)
