-- `counts::marks` meets its contract: a loop that marks the modulus of each wire. Assumes nothing.
use mathlib.Core.Path.{ap, ◌∙◌}
use Prim.Native.Nat.{ℕ}
use mathlib.Core.List.{List}
use native.Mathlib.Omega.{arith}
use lib.ListN.{set}
use Rattle.circuit.specs.Wires.{modulus_at}
use Rattle.circuit.specs.Held.{wires_in}
use Rattle.counts.proofs.Marked.{marked_none, marked_next, marked_all}
use Rattle.counts.proofs.modulus.marks.Goals as goal

pub loop-wire-init : goal.loop-wire-init
loop-wire-init c = c.zeros-marks.ensures ∙ marked_none 256 (modulus_at (wires_in c.args.circuit))

pub loop-wire-preserved : goal.loop-wire-preserved
loop-wire-preserved c = ap (λ (xs : List ℕ). set xs c.from.result 1) c.loop-wire.invariant ∙ marked_next 256 (modulus_at (wires_in c.args.circuit)) c.loop-wire.wire-index c.from.result (omega arith) c.from.ensures

pub returns : goal.returns
returns c = marked_all (modulus_at (wires_in c.args.circuit)) c.loop-wire.invariant c.loop-wire.auto.wire-index-end c.loop-wire-test.false
