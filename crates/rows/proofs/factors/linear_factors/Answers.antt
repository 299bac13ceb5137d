-- `rows::factors::linear_factors` meets its contract: each factor as the closure says it.
-- Assumes nothing.
use Rattle.std.proofs.Common.{rules}
use Rattle.rows.proofs.factors.linear_factors.Goals as goal

pub returns : goal.returns
returns c = c.factors.ensures _ (λ α v h e. search rules)
