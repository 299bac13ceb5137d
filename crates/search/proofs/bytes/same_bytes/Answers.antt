-- `search::bytes::same_bytes` meets its contract: it is the library's comparison.
-- Assumes nothing.
use mathlib.Core.Path.{◌∙◌}
use Rattle.search.proofs.Same.{same_pointwise}
use Rattle.search.proofs.bytes.same_bytes.Goals as goal

pub returns : goal.returns
returns c = c.eq.ensures ∙ same_pointwise _ _
