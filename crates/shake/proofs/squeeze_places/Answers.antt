-- `shake::squeeze_places` meets its contract: a turn of the loop reads one place more, whether or not a block has ended before it (`Stream.antt`).
-- Assumes nothing.
use mathlib.Core.Path.{◌∙◌}
use native.Mathlib.Omega.{arith}
use Rattle.shake.proofs.Stream.{all-written, more_full, more_within}
use Rattle.shake.proofs.squeeze_places.Goals as goal
use Rattle.shake.proofs.squeeze_places.Goals.{then-at-BLOCK, else-at-BLOCK}

pub loop-place-preserved : goal.loop-place-preserved
loop-place-preserved g c =
    let turn = c.loop-place in
    let next = c.if-at-BLOCK in
    elim next.branch [
      | then-at-BLOCK w ↦
          more_full g.P.Place.BLOCK g.P.Place.reads _ _ turn.out turn.lanes turn.at turn.place-index turn.invariant c.loop-place-test.true next.lanes next.at
          _ w.keccak_f-next.result g.met.P.Place.not_empty (w.if-at-BLOCK.true ∙ c.BLOCK.ensures) w.keccak_f-next.ensures w.lanes-is w.at-is c.read.ensures
      | else-at-BLOCK w ↦
          more_within g.P.Place.BLOCK g.P.Place.reads _ _ turn.out turn.lanes turn.at turn.place-index turn.invariant c.loop-place-test.true next.lanes next.at
          _ (λ e. omega (arith, e, w.if-at-BLOCK.false, c.BLOCK.ensures)) w.lanes-is w.at-is c.read.ensures
    ]

pub returns : goal.returns
returns g c = all-written g.P.Place.BLOCK g.P.Place.reads _ _ _ _ _ _ c.loop-place.invariant c.loop-place-test.false
