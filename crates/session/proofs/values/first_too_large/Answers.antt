-- `session::first_too_large` meets its contract: a chain that looks for the first. Assumes nothing.
use borrow.Author.Rules.{rules}
use borrow.Author.Tests.{tests}
use Rattle.std.proofs.lemmas.Iterator.{YieldsList-from_slice, YieldsList-from_zip}
use Rattle.std.proofs.lemmas.Iterator.Search.{position_from_yields_List}
use mathlib.Core.Path.{◌≡◌, ap, ◌∙◌}
use Prim.Native.Nat.{ℕ, ◌≤◌}
use lib.Dec.{leb}
use Rattle.std.specs.Prelude.{Option}
use Rattle.std.specs.List.{position, zip}
use Rattle.std.specs.Option.{unwrap_or}
use Rattle.circuit.specs.Wires.{no_wire}
use Rattle.counts.proofs.Wires.{made-in}
use Rattle.lists.proofs.Positions.{first-position}
use Rattle.session.proofs.Searches.{pairs, first-large}
use native.Mathlib.Omega.{arith}
use lib.ListN.{length}
use Rattle.words.specs.declared.gate.Wire.{Wire}
use Rattle.circuit.specs.Held.{wires_in}
use Rattle.session.proofs.values.first_too_large.Goals as goal

pub returns : goal.returns
returns c =
    let e : c.position.result ≡ position (λ (p : ℕ × Wire). leb p.1.modulus p.0) (zip c.args.values.now (wires_in c.args.circuit)) =
    position_from_yields_List (λ (p : ℕ × Wire). leb p.1.modulus p.0) c.position.new.self _ c.position.result c.position.ensures.ran (YieldsList-from_zip {s = c.zip.result} (YieldsList-from_slice c.args.values.now (cc)) (YieldsList-from_slice (wires_in c.args.circuit) (cc))) (λ x b q k. search (rules, tests)) in
    let room : length c.args.values.now ≤ length (wires_in c.args.circuit) = omega (arith, made-in c.requires.0, c.requires.1) in
    first-position (λ (p : ℕ × Wire). leb p.1.modulus p.0) (0, no_wire) (zip c.args.values.now (wires_in c.args.circuit)) (pairs c.args.values.now (wires_in c.args.circuit) room)
    (c.unwrap_or.ensures ∙ ap (λ (o : Option ℕ). unwrap_or o (length c.args.values.now)) e)
    ∙ first-large c.args.values.now (wires_in c.args.circuit) room
