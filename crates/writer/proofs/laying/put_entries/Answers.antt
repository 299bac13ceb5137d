-- `writer::laying::put_entries`. Assumes nothing.
use mathlib.Core.Path.{◌∙◌}
use native.Mathlib.Omega.{arith}
use Rattle.writer.proofs.Puts.{put_next, put_start, put_done}
use Rattle.writer.proofs.laying.put_entries.Goals as goal

pub loop-i-init : goal.loop-i-init
loop-i-init c = put_start c.args.file.now c.args.at c.args.images.now

pub loop-i-preserved : goal.loop-i-preserved
loop-i-preserved c =
    put_next c.loop-i.file c.args.at c.loop-i.i c.args.images.now (omega arith) c.entry_word.ensures c.put_word.ensures ∙ c.loop-i.invariant

pub returns : goal.returns
returns c = put_done c.loop-i.file c.args.at c.loop-i.i c.args.images.now (omega arith) ∙ c.loop-i.invariant
