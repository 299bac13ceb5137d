-- `bundles::gates::scaled_item`: by whether the constant is 0. Assumes nothing.
use mathlib.Core.Path.{ap, ◌∙◌}
use Prim.Native.Nat.{ℕ}
use Rattle.words.specs.declared.item.Item.{Item}
use Rattle.bundles.proofs.Laid.{scaled-zero, scaled_some}
use Rattle.bundles.proofs.gates.scaled_item.Goals as goal

pub returns-then-constant-eq0 : goal.returns-then-constant-eq0
returns-then-constant-eq0 c = ap (λ (q : ℕ). Item.Project q c.args.a) c.from.ensures ∙ scaled-zero c.args.p c.args.a c.if-constant-eq0.true

pub returns : goal.returns
returns c = ap (λ (n : ℕ). Item.Scale n c.args.a) c.from-2.ensures ∙ scaled_some c.args.constant c.args.p c.args.a c.if-constant-eq0.false
