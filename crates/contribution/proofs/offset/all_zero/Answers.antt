-- `contribution::all_zero` meets its contract: the library's test of each. Assumes nothing.
use mathlib.Core.Path.{◌∙◌}
use lib.Dec.{eqb}
use Rattle.std.proofs.Common.{rules, tests}
use Rattle.std.proofs.lemmas.Iterator.{YieldsList-from_slice}
use Rattle.std.proofs.lemmas.Iterator.Search.{all_from_yields_List}
use Rattle.contribution.proofs.Offsets.{zeros_all}
use Rattle.contribution.proofs.offset.all_zero.Goals as goal

pub returns : goal.returns
returns c = all_from_yields_List (λ x. eqb x 0) _ _ c.all.result c.all.ensures.ran (YieldsList-from_slice c.args.bytes.now (cc)) (λ x b q k. search (rules, tests)) ∙ zeros_all c.args.bytes.now
