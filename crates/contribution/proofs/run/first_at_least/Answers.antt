-- `contribution::first_at_least` meets its contract: where the bound is below p there is none, and else the library's search finds it. Assumes nothing.
use lib.Dec.{leb}
use mathlib.Core.Path.{◌∙◌}
use Rattle.std.proofs.Common.{rules, tests}
use Rattle.std.proofs.lemmas.Iterator.{YieldsList-from_slice}
use Rattle.std.proofs.lemmas.Iterator.Search.{position_from_yields_List}
use Rattle.contribution.proofs.Large.{bounded_none, placed}
use Rattle.contribution.proofs.run.first_at_least.Goals as goal

pub returns-then-most-p : goal.returns-then-most-p
returns-then-most-p c = bounded_none c.bound-most.ensures c.if-most-p.true

pub returns : goal.returns
returns c = c.unwrap_or.ensures ∙ placed c.args.p c.args.bytes.now (position_from_yields_List (leb c.args.p) _ _ c.position.result c.position.ensures.ran (YieldsList-from_slice c.args.bytes.now (cc)) (λ x b q k. search (rules, tests)))
