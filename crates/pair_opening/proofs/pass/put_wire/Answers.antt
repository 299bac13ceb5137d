-- `pair_opening::put_wire` meets its contract: what was opened stands at its place, and byte 0 of it at its own. Assumes nothing.
use mathlib.Core.Path.{refl, ◌∙◌}
use native.Mathlib.Omega.{arith}
use lib.Seq.{length-take-le}
use Rattle.pair_opening.proofs.Loop.{put_is}
use Rattle.pair_opening.proofs.pass.put_wire.Goals as goal

pub returns : goal.returns
returns c =
    let room = c.scratch-room.ensures in
    let size = length-take-le c.args.turn.k c.scratch-room.result (omega (arith, c.requires.seated.0.short)) in
    put_is c.args.turn refl (c.open_wire.auto.out ∙ size) c.open_wire.ensures c.put_at.ensures
