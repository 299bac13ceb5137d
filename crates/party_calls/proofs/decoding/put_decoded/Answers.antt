-- `party_calls::put_decoded` meets its contract: a loop that fills the buffer output by output. Assumes nothing.
use mathlib.Core.Path.{refl}
use Rattle.party_calls.proofs.Decodes.{decode_start, decode-operands, decode-step}
use Rattle.party_calls.proofs.decoding.put_decoded.Goals as goal

pub loop-i-init : goal.loop-i-init
loop-i-init c = decode_start c.requires refl

pub shown-requires : goal.shown-requires
shown-requires c = decode-operands c.requires c.loop-i-test.true c.from-at.ensures c.may_read-may.ensures c.output_moduli-table.ensures

pub loop-i-preserved : goal.loop-i-preserved
loop-i-preserved c = decode-step c.requires c.loop-i-test.true c.from-at.ensures c.may_read-may.ensures c.loop-i.invariant c.output_moduli-table.ensures c.shown.ensures
