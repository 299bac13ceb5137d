-- `bundles::gates::Part::lay`. Assumes nothing.
use native.Mathlib.Omega.{arith}
use Rattle.bundles.proofs.Laid.{part-most, kept_none, kept_next, kept-done, at_none, at_next}
use Rattle.bundles.proofs.gates.Part.lay.Goals as goal

pub loop-i-init : goal.loop-i-init
loop-i-init c = let a = c.args in (at_none a.self.operation a.self.a, kept_none a.file.now a.self.operation a.self.a)

pub lay_gate-at-requires : goal.lay_gate-at-requires
lay_gate-at-requires c = (
  c.loop-i-test.true,
  omega (arith, c.loop-i.invariant.0, part-most c.args.self.operation c.loop-i.i c.args.self.a (omega arith)),
)

pub loop-i-preserved : goal.loop-i-preserved
loop-i-preserved c = let a = c.args in (
  at_next a.self.operation a.self.a c.loop-i.i c.loop-i.invariant.0 c.lay_gate-at.ensures.0,
  kept_next a.self.operation a.self.a c.loop-i.i c.loop-i.invariant.1 c.loop-i.invariant.0 c.lay_gate-at.ensures.1,
)

pub returns : goal.returns
returns c = kept-done c.args.self.operation c.args.self.a (omega arith) (omega arith) c.loop-i.invariant.1 c.requires
