-- `zero::masks::wire_masks` meets its contract: element by element, a wire each, with the cursor over the records.
-- Assumes nothing.
use mathlib.Core.Path.{◌∙◌}
use native.Mathlib.Omega.{arith}
use lib.ListN.{length-set}
use Rattle.session.proofs.Circuits.{made-is}
use Rattle.zero.proofs.Turns.{record-fits, shares-fit, next-record, masks_start, masks-long, mask_asked, masks-step, masks-done}
use Rattle.zero.proofs.masks.wire_masks.Goals as goal

pub loop-w-init : goal.loop-w-init
loop-w-init c = (c.first_record-at.ensures, masks-long c.zeros-masks.ensures, c.zeros-masks.ensures, masks_start c.requires c.zeros-masks.ensures)

pub overflow_add-at : goal.overflow_add-at
overflow_add-at c = omega (arith, shares-fit c.requires (omega (arith, made-is c.requires.held)) c.loop-w.invariant.0 c.record_keys.ensures, c.ranges.drawn.0)

pub wire_mask-requires : goal.wire_mask-requires
wire_mask-requires c = mask_asked c.requires (omega (arith, made-is c.requires.held)) c.loop-w.invariant.0 c.record_keys.ensures c.loop-w.invariant.3

pub overflow_add-at-in-loop-w : goal.overflow_add-at-in-loop-w
overflow_add-at-in-loop-w c = omega (arith, record-fits c.requires (omega (arith, made-is c.requires.held)) c.loop-w.invariant.0 c.record_size-at.ensures, c.ranges.drawn.0)

pub loop-w-preserved : goal.loop-w-preserved
loop-w-preserved c = (next-record c.requires (omega (arith, made-is c.requires.held)) c.loop-w.invariant.0 c.record_size-at.ensures, length-set c.loop-w.masks c.loop-w.w c.wire_mask.result ∙ c.loop-w.invariant.1, c.loop-w.invariant.2, masks-step c.requires (omega (arith, made-is c.requires.held)) c.loop-w.invariant.0 c.record_keys.ensures c.loop-w.invariant.3 c.wire_mask.ensures)

pub returns : goal.returns
returns c = masks-done c.requires c.loop-w.invariant.2 c.loop-w.invariant.3 (omega (arith, made-is c.requires.held))
