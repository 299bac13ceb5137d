-- `prices::sheet::put_too_long` meets its contract. Assumes nothing.
use Rattle.prices.specs.Prices.{printed}
use Rattle.prices.proofs.sheet.put_too_long.Goals as goal

pub returns : goal.returns
unfolding printed
returns c = c.put_text.ensures
