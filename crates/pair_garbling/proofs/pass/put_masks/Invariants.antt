-- `pair_garbling::pass::put_masks` meets its contract: one mask after another.
-- Assumes nothing.
use Prim.Native.Nat.{◌*◌}
use lib.ListN.{length, take, get_or}
use Rattle.lists.specs.Blocks.{tab}
use Rattle.lists.proofs.Filled.{Filled}
use Rattle.pair_garbling.proofs.pass.put_masks.Given as goal

abbrev pub invariant-loop-i : goal.invariant-loop-i
invariant-loop-i l = Filled l.initial.outputs l.i l.circuit.given (tab (length (take l.circuit.given l.circuit.outputs)) (λ j. get_or l.keys (get_or (take l.circuit.given l.circuit.outputs) j 0 * l.k) 0)) l.outputs
