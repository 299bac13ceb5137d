-- `pair_checks::draw_checked` meets its contract: the first that was found is named. Assumes nothing.
use Rattle.circuit.specs.Held.{wires_in}
use Rattle.pair_checks.proofs.Named.{draw_met}
use Rattle.pair_checks.proofs.draw.draw_checked.Goals as goal

pub first_in_draw-found-requires : goal.first_in_draw-found-requires
first_in_draw-found-requires c = c.requires

pub returns : goal.returns
returns c = draw_met c.args.k (wires_in c.args.circuit) c.args.draw.now c.first_in_draw-found.ensures c.named.ensures
