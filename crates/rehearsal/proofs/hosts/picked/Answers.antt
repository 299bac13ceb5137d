-- `rehearsal::picked` meets its contract: a pass over the wires, each written to the place after the party's last. Assumes nothing.
use Prim.Native.Nat.{◌-◌, ◌≤◌}
use native.Mathlib.Omega.{arith}
use Rattle.circuit.specs.Held.{wires_in}
use Rattle.rehearsal.proofs.Own.{OwnTo, own_start, own-step, own-front}
use Rattle.rehearsal.proofs.hosts.picked.Goals as goal

pub loop-w-init : goal.loop-w-init
loop-w-init c = let a = c.args in (omega arith, own_start a.party (wires_in a.circuit) a.all.now c.blank-out.ensures)

pub offset_bounds-circuit-w : goal.offset_bounds-circuit-w
offset_bounds-circuit-w c = omega (arith, c.requires.made, c.requires.wires)

pub bounds-circuit-w : goal.bounds-circuit-w
bounds-circuit-w c = omega (arith, c.requires.made, c.requires.wires)

pub bounds-out-count : goal.bounds-out-count
bounds-out-count c = omega (arith, c.requires.made, c.loop-w.invariant.1.most, c.loop-w.invariant.1.long)

pub overflow_add-count : goal.overflow_add-count
overflow_add-count c = omega (arith, c.requires.made, c.loop-w.invariant.1.most, c.owned-count.ensures.most)

pub overflow_add-w : goal.overflow_add-w
overflow_add-w c = omega (arith, c.requires.made, c.requires.wires)

pub loop-w-preserved : goal.loop-w-preserved
loop-w-preserved c = (omega arith, own-step c.requires c.args.party c.loop-w.invariant.1 c.loop-w-test.true c.owned-count.ensures c.entry.ensures)

pub returns : goal.returns
returns c = own-front c.requires c.args.party c.loop-w.invariant.1 c.loop-w.invariant.0 c.loop-w-test.false
