-- `rehearsal::hosts::chosen` meets its contract: one or the other by the test of the `if`. Assumes nothing.
use mathlib.Core.Path.{sym, ap}
use mathlib.Core.Bool.{Bool, cond}
use borrow.Author.Tests.{eq-eqb, ne_eqb}
use Rattle.rehearsal.proofs.hosts.chosen.Goals as goal

pub returns-then-mark-eq1 : goal.returns-then-mark-eq1
returns-then-mark-eq1 c = sym (ap (λ (b : Bool). cond b c.args.new c.args.old) (eq-eqb _ _ c.if-mark-eq1.true))

pub returns-else-mark-eq1 : goal.returns-else-mark-eq1
returns-else-mark-eq1 c = sym (ap (λ (b : Bool). cond b c.args.new c.args.old) (ne_eqb _ _ c.if-mark-eq1.false))
