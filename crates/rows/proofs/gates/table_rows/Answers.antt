-- `rows::gates::table_rows` meets its contract: a component with a table's factors.
-- Assumes nothing.
use mathlib.Core.Path.{refl}
use Rattle.residue.specs.Vector.{key_v}
use Rattle.scheme.specs.Message.{project_message}
use Rattle.scheme.specs.Gate.{table_row, table_rows}
use Rattle.rows.proofs.Messages.{component_is}
use Rattle.rows.proofs.gates.table_rows.Goals as goal

pub returns : goal.returns
unfolding table_rows table_row project_message key_v
returns c = component_is c.row.ensures _ _ _ _ _ c.table_factors-factors.ensures (λ α. refl) c.component_rows.ensures
