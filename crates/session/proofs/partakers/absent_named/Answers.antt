-- `session::partakers::absent_named` meets its contract: of eight parties none is absent. Assumes nothing.
use mathlib.Core.Path.{◌∙◌}
use native.Mathlib.Omega.{arith}
use borrow.Author.Tests.{le-ltb}
use Rattle.session.proofs.Named.{all_take_part}
use Rattle.session.proofs.partakers.absent_named.Goals as goal

pub returns-else-n-lt8 : goal.returns-else-n-lt8
returns-else-n-lt8 c = le-ltb c.args.n 8 c.if-n-lt8.false ∙ all_take_part c.args.n c.args.parties c.if-n-lt8.false (omega arith)
