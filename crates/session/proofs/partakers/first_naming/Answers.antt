-- `session::partakers::first_naming` meets its contract: a chain that looks for the first. Assumes nothing.
use borrow.Author.Rules.{rules}
use borrow.Author.Tests.{tests}
use mathlib.Core.Path.{◌≡◌, ap, ◌∙◌}
use Prim.Native.Nat.{ℕ}
use native.Mathlib.Omega.{arith}
use lib.Seq.{length-take-le}
use Rattle.std.specs.Prelude.{Option}
use Rattle.std.specs.List.{position}
use Rattle.std.specs.Option.{unwrap_or}
use Rattle.std.proofs.lemmas.Iterator.{YieldsList-from_slice}
use Rattle.std.proofs.lemmas.Iterator.Search.{position_from_yields_List}
use Rattle.lists.proofs.Positions.{first-position}
use Rattle.circuit.specs.Held.{named_in}
use Rattle.session.specs.Session.{named_absent}
use Rattle.session.proofs.partakers.first_naming.Goals as goal

pub returns : goal.returns
returns c =
    let e : c.position.result ≡ position (named_absent c.args.n) (named_in c.args.circuit) =
    position_from_yields_List (named_absent c.args.n) _ _ c.position.result c.position.ensures.ran (YieldsList-from_slice _ c.iter.ensures.rest) (λ x b q k. search (rules, tests)) in
    first-position (named_absent c.args.n) 0 (named_in c.args.circuit) (length-take-le c.args.circuit.given c.args.circuit.named (omega arith)) (c.unwrap_or.ensures ∙ ap (λ (o : Option ℕ). unwrap_or o c.args.circuit.given) e)
