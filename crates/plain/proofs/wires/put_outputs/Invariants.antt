-- `plain::put_outputs` meets its contract: a loop that fills the buffer output by output. Assumes nothing.
use lib.ListN.{length, get_or}
use Rattle.lists.specs.Blocks.{tab}
use Rattle.lists.proofs.Filled.{Filled}
use Rattle.plain.proofs.wires.put_outputs.Given as goal

abbrev pub invariant-loop-i : goal.invariant-loop-i
invariant-loop-i l = Filled l.initial.outputs l.i (length l.wire-items) (tab (length l.wire-items) (λ j. get_or l.done (get_or l.wire-items j 0) 0)) l.outputs
