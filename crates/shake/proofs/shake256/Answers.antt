-- `shake::shake256` meets its contract, by what its callees ensure and `Whole.antt`.
-- Assumes nothing.
use mathlib.Core.Path.{◌∙◌}
use Rattle.shake.proofs.Whole.{first_field, is-shake256}
use Rattle.shake.proofs.shake256.Goals as goal

pub returns : goal.returns
returns c = let m = c.args.message.now in
    let e = first_field c.start.result c.absorbed.result m c.start.ensures c.absorbed.ensures in
    c.squeeze.ensures ∙ is-shake256 c.absorbed.result m c.finished.result _ (λ i. (c.type_inv.message i).fits) e c.finished.ensures
