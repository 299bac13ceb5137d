-- `rehearsal::externals_of_all` meets its contract: one party after another. Assumes nothing.
use Prim.Native.Nat.{◌-◌}
use mathlib.Core.Path.{◌∙◌}
use native.Mathlib.Omega.{arith}
use Rattle.circuit.specs.Held.{wires_in}
use Rattle.rehearsal.proofs.Asked.{AllTo, all_start, all-step, all_done}
use Rattle.rehearsal.proofs.masking.externals_of_all.Goals as goal

pub loop-party-init : goal.loop-party-init
loop-party-init c = let a = c.args in all_start a.file.now a.n (wires_in a.circuit) a.values.now a.masks.now a.externals.now

pub party_externals-answer-requires : goal.party_externals-answer-requires
party_externals-answer-requires c = (c.requires.0, c.loop-party.invariant.kept ∙ c.requires.1)

pub loop-party-preserved : goal.loop-party-preserved
loop-party-preserved c = all-step c.loop-party.invariant c.loop-party-test.true c.party_externals-answer.auto.externals c.party_externals-answer.ensures

pub shape_of-externals : goal.shape_of-externals
shape_of-externals c = c.loop-party.invariant.kept

pub returns : goal.returns
returns c = all_done c.loop-party.invariant c.loop-party-test.false
