-- `shake::absorbed` meets its contract: a turn of the loop takes one byte in, whether or not it fills the block (`Fields.antt`).
-- Assumes nothing.
use mathlib.Core.Path.{ap, ◌∙◌}
use lib.ListN.{get_or}
use native.Mathlib.Omega.{arith}
use Rattle.shake.specs.Stream.{Soaked, with_field}
use Rattle.shake.proofs.Fields.{full, within, ended, again}
use Rattle.shake.proofs.absorbed.Goals as goal
use Rattle.shake.proofs.absorbed.Goals.{then-at-eq-RATE, else-at-eq-RATE}

pub loop-byte-preserved : goal.loop-byte-preserved
loop-byte-preserved c =
    let turn = c.loop-byte in
    let byte = get_or c.args.field.now turn.byte-index 0 in
    again turn.lanes turn.at c.if-at-eq-RATE.lanes c.if-at-eq-RATE.at c.args.field.now turn.byte-index _
    c.loop-byte-test.true turn.invariant.0 turn.invariant.1 turn.invariant.2
    (elim c.if-at-eq-RATE.branch [
      | then-at-eq-RATE w ↦
          full turn.lanes turn.at byte c.from.result c.if-at-eq-RATE.lanes c.if-at-eq-RATE.at c.from.ensures (omega (arith, c.type_inv.field turn.byte-index))
          w.keccak_f-next.result w.if-at-eq-RATE.true w.keccak_f-next.ensures w.lanes-is w.at-is
      | else-at-eq-RATE w ↦
          within turn.lanes turn.at byte c.from.result c.if-at-eq-RATE.lanes c.if-at-eq-RATE.at c.from.ensures (omega (arith, c.type_inv.field turn.byte-index))
          w.if-at-eq-RATE.false w.lanes-is w.at-is
    ])

pub returns : goal.returns
returns c = ended _ _ c.args.field.now c.loop-byte.byte-index c.loop-byte-test.false c.loop-byte.invariant.2 ∙ ap (λ (s : Soaked). with_field s c.args.field.now) c.sponge.view_is
