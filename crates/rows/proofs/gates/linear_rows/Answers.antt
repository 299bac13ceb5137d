-- `rows::gates::linear_rows` meets its contract: a component with linear factors.
-- Assumes nothing.
use mathlib.Core.Path.{refl}
use Rattle.rows.proofs.Messages.{component_is}
use Rattle.rows.proofs.gates.linear_rows.Goals as goal

pub returns : goal.returns
returns c = component_is c.row.ensures _ _ _ _ _ c.linear_factors.ensures (λ α. refl) c.component_rows.ensures
