-- `writer::items::went` meets its contract: each arm is told what the item did.
-- Assumes nothing.
use native.Mathlib.Omega.{arith}
use Rattle.writer.proofs.Desks.{after-ends, after_gives, after_goes, after_makes, after-refused}
use Rattle.writer.proofs.items.went.Goals as goal

pub bounds-moduli-made : goal.bounds-moduli-made
bounds-moduli-made c = c.requires.2.room _ _ c.in-Makes.is

pub overflow_add-made : goal.overflow_add-made
overflow_add-made c = omega (arith, c.requires.1)

pub overflow_add-given : goal.overflow_add-given
overflow_add-given c = omega (arith, c.requires.1)

pub returns-in-Refused : goal.returns-in-Refused
returns-in-Refused c = let a = c.args in
    after-refused a.lay a.place a.w a.pen.now a.moduli.now a.file.now c.in-Refused.is c.stop.ensures

pub returns-in-Makes : goal.returns-in-Makes
returns-in-Makes c = let a = c.args in
    after_makes a.lay a.place a.w a.pen.now a.moduli.now a.file.now c.lay_word.ensures c.in-Makes.is c.go_on.ensures

pub returns-in-Goes : goal.returns-in-Goes
returns-in-Goes c = let a = c.args in
    after_goes a.lay a.place a.w a.pen.now a.moduli.now a.file.now c.lay_word-in-Goes.ensures c.in-Goes.is c.go_on-in-Goes.ensures

pub returns-in-Gives : goal.returns-in-Gives
returns-in-Gives c = let a = c.args in
    after_gives a.lay a.place a.w a.pen.now a.moduli.now a.file.now c.lay_word-in-Gives.ensures c.in-Gives.is c.go_on-in-Gives.ensures

pub returns-in-Ends : goal.returns-in-Ends
returns-in-Ends c = let a = c.args in
    after-ends a.lay a.place a.w a.pen.now a.moduli.now a.file.now c.lay_word-in-Ends.ensures c.in-Ends.is c.go_on-in-Ends.ensures
