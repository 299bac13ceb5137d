-- `prices::listing::put_circuit` meets its contract. Assumes nothing.
use Rattle.circuit.specs.File.{read_file}
use Rattle.prices.proofs.Table.{placed_as, listed-accepted, listed-refused}
use Rattle.prices.proofs.listing.put_circuit.Goals as goal

pub put_listing-requires : goal.put_listing-requires
put_listing-requires c = (c.in-Ok.ensures.ok.held.room, c.requires)

pub returns-in-Ok : goal.returns-in-Ok
returns-in-Ok c = placed_as c.put_listing.ensures (listed-accepted c.in-Ok.ensures.ok)

pub returns-in-Err : goal.returns-in-Err
returns-in-Err c = placed_as c.put_refusal.ensures (listed-refused (read_file c.args.file.now) c.in-Err.ensures.err)
