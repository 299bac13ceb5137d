-- `pair_checks::rows_checked` meets its contract: the first that was found is named. Assumes nothing.
use Rattle.circuit.specs.Held.{wires_in}
use Rattle.pair_checks.proofs.Named.{rows_met}
use Rattle.pair_checks.proofs.row_bytes.rows_checked.Goals as goal

pub first_in_rows-found-requires : goal.first_in_rows-found-requires
first_in_rows-found-requires c = c.requires

pub returns : goal.returns
returns c = rows_met c.args.k (wires_in c.args.circuit) c.args.rows.now c.first_in_rows-found.ensures c.named.ensures
