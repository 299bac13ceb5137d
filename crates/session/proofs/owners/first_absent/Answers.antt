-- `session::first_absent` meets its contract: a chain that looks for the first. Assumes nothing.
use borrow.Author.Rules.{rules}
use borrow.Author.Tests.{tests}
use mathlib.Core.Path.{◌≡◌, ap, ◌∙◌}
use Prim.Native.Nat.{ℕ}
use Rattle.std.specs.Prelude.{Option}
use Rattle.std.specs.List.{position}
use Rattle.std.specs.Option.{unwrap_or}
use Rattle.std.proofs.lemmas.Iterator.{YieldsList-from_slice}
use Rattle.std.proofs.lemmas.Iterator.Search.{position_from_yields_List}
use Rattle.lists.proofs.Positions.{first-position}
use Rattle.words.specs.declared.gate.Wire.{Wire}
use Rattle.circuit.specs.Wires.{no_wire}
use Rattle.circuit.specs.Held.{wires_in}
use Rattle.session.specs.Session.{owner_absent}
use Rattle.counts.proofs.Wires.{made-in}
use Rattle.session.proofs.owners.first_absent.Goals as goal

pub returns : goal.returns
returns c =
    let e : c.position.result ≡ position (λ (wire : Wire). owner_absent c.args.n wire.gate) (wires_in c.args.circuit) =
    position_from_yields_List (λ (wire : Wire). owner_absent c.args.n wire.gate) _ _ c.position.result c.position.ensures.ran (YieldsList-from_slice _ c.iter.ensures.rest) (λ x b q k. search (rules, tests)) in
    first-position (λ (wire : Wire). owner_absent c.args.n wire.gate) no_wire (wires_in c.args.circuit) (made-in c.requires) (c.unwrap_or.ensures ∙ ap (λ (o : Option ℕ). unwrap_or o c.args.circuit.made) e)
