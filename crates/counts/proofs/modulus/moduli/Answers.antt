-- `counts::moduli` meets its contract: a loop that fills the table wire by wire. Assumes nothing.
use mathlib.Core.Path.{ap, ◌∙◌}
use mathlib.Core.List.{◌++◌}
use Prim.Native.Nat.{ℕ, ◌-◌}
use lib.ListN.{replicate}
use Rattle.circuit.specs.Wires.{moduli_of}
use Rattle.circuit.specs.Held.{wires_in}
use Rattle.counts.proofs.Wires.{made-in, few-wires, table_start, table-step, table-done}
use Rattle.counts.proofs.modulus.moduli.Goals as goal

pub loop-w-init : goal.loop-w-init
loop-w-init c = table_start (wires_in c.args.circuit) c.zeros-moduli.ensures (few-wires c.requires)

pub loop-w-preserved : goal.loop-w-preserved
loop-w-preserved c = table-step (wires_in c.args.circuit) c.zeros-moduli.ensures c.loop-w.invariant c.loop-w-test.true

pub returns : goal.returns
returns c = table-done (wires_in c.args.circuit) c.zeros-moduli.ensures c.loop-w.invariant c.loop-w-test.false ∙ ap (λ (n : ℕ). moduli_of (wires_in c.args.circuit) ++ replicate (1024 - n) 0) (made-in c.requires)
