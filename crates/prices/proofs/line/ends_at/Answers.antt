-- `prices::line::ends_at` meets its contract. Assumes nothing.
use lib.ListN.{drop_of_length-le}
use lib.Seq.{drop-cons}
use Rattle.prices.specs.Lines.{line_ends}
use Rattle.prices.proofs.line.ends_at.Goals as goal

pub returns-then-at-text : goal.returns-then-at-text
unfolding line_ends
returns-then-at-text c = rw (drop-cons c.args.text.now c.args.at 0 c.if-at-text.true)

pub returns-else-at-text : goal.returns-else-at-text
unfolding line_ends
returns-else-at-text c = rw (drop_of_length-le c.args.text.now c.if-at-text.false)
