-- `rehearsal::entry` meets its contract: both ways of its test. Assumes nothing.
use borrow.Author.Rules.{rules}
use mathlib.Core.Path.{sym}
use native.Mathlib.Omega.{arith}
use lib.ListN.{get_or-eq_default}
use Rattle.rehearsal.proofs.hosts.entry.Goals as goal

pub returns-else-at-all : goal.returns-else-at-all
returns-else-at-all c = sym (get_or-eq_default c.args.all.now 0 (omega (arith, c.if-at-all.false)))
