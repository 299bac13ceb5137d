-- `rehearsal::scatter` meets its contract: a pass over the inputs that changes the party's own alone. Assumes nothing.
use Prim.Native.Nat.{◌-◌}
use native.Mathlib.Omega.{arith}
use Rattle.circuit.specs.Held.{wires_in}
use Rattle.session.proofs.Circuits.{inputs-made}
use Rattle.lists.proofs.Filled.{filled_whole}
use Rattle.rehearsal.proofs.Own.{ScatterTo, scatter_start, scatter_step}
use Rattle.rehearsal.proofs.hosts.scatter.Goals as goal

pub loop-w-init : goal.loop-w-init
loop-w-init c = let a = c.args in scatter_start a.party (wires_in a.circuit) a.mine.now a.externals.now

pub offset_bounds-circuit-w : goal.offset_bounds-circuit-w
offset_bounds-circuit-w c = omega (arith, inputs-made c.requires.0, c.requires.0.room.made, c.requires.0.room.wires)

pub bounds-circuit-w : goal.bounds-circuit-w
bounds-circuit-w c = omega (arith, inputs-made c.requires.0, c.requires.0.room.made, c.requires.0.room.wires)

pub bounds-mine-count : goal.bounds-mine-count
bounds-mine-count c = omega (arith, inputs-made c.requires.0, c.requires.0.room.made, c.requires.1.0, c.loop-w.invariant.most)

pub bounds-externals-w : goal.bounds-externals-w
bounds-externals-w c = omega (arith, c.requires.1.1, c.loop-w.invariant.filled.kept)

pub bounds-externals-w-in-loop-w : goal.bounds-externals-w-in-loop-w
bounds-externals-w-in-loop-w c = omega (arith, c.requires.1.1, c.loop-w.invariant.filled.kept)

pub overflow_add-count : goal.overflow_add-count
overflow_add-count c = omega (arith, inputs-made c.requires.0, c.requires.0.room.made, c.loop-w.invariant.most, c.owned-mark.ensures.most)

pub overflow_add-w : goal.overflow_add-w
overflow_add-w c = omega (arith, inputs-made c.requires.0, c.requires.0.room.made, c.requires.0.room.wires)

pub loop-w-preserved : goal.loop-w-preserved
loop-w-preserved c = scatter_step c.requires.0 c.args.party c.requires.1.1 c.loop-w.invariant c.loop-w-test.true c.owned-mark.ensures c.chosen.ensures

pub shape_of-externals : goal.shape_of-externals
shape_of-externals c = c.loop-w.invariant.filled.kept

pub returns : goal.returns
returns c = filled_whole c.loop-w.invariant.filled (omega (arith, c.requires.1.1))
