-- `rehearsal::externals_of_all` meets its contract: one party after another. Assumes nothing.
use Prim.Native.Nat.{◌-◌}
use mathlib.Core.Path.{◌∙◌}
use native.Mathlib.Omega.{arith}
use Rattle.circuit.specs.Held.{wires_in}
use Rattle.rehearsal.proofs.Asked.{AllTo, all_start, all-step, all_done}
use Rattle.rehearsal.proofs.masking.externals_of_all.Given as goal

abbrev pub invariant-loop-party : goal.invariant-loop-party
invariant-loop-party l = AllTo l.file l.n (wires_in l.circuit) l.values l.masks l.initial.externals l.party l.externals

abbrev pub decreases-loop-party : goal.decreases-loop-party
decreases-loop-party l = l.n - l.party
