-- `writer::steps::spoken_on` meets its contract: each arm is told what is said.
-- Assumes nothing.
use native.Mathlib.Omega.{arith}
use Rattle.writer.specs.Desk.{desk}
use Rattle.writer.proofs.Desks.{at-laid, near_enough, steady-laid}
use Rattle.writer.proofs.Speeches.{nothing-done, says-done}
use Rattle.writer.proofs.steps.spoken_on.Goals as goal

pub rest_on-requires : goal.rest_on-requires
rest_on-requires c = let a = c.args in
    (steady-laid a.lay a.place _ (desk a.pen.now a.moduli.now a.file.now) c.lay_item.ensures c.requires.steady, omega (arith, near_enough c.requires, at-laid a.lay a.place _ (desk a.pen.now a.moduli.now a.file.now) c.lay_item.ensures))

pub returns-in-None : goal.returns-in-None
returns-in-None c = let a = c.args in
    nothing-done a.lay a.tables.now a.place (desk a.pen.now a.moduli.now a.file.now) c.in-None.is (c.refuse.ensures a.moduli.now a.file.now)

pub returns-in-Some : goal.returns-in-Some
returns-in-Some c = let a = c.args in
    says-done a.lay a.tables.now a.place (desk a.pen.now a.moduli.now a.file.now) c.in-Some.is c.lay_item.ensures c.rest_on.ensures
