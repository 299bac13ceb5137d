-- `writer::speech::speak` meets its contract: each arm is told the kind, and that of an output that a byte is below 256.
-- Assumes nothing.
use mathlib.Core.Path.{refl, sym, subst, ◌∙◌}
use Prim.Native.Nat.{◌<◌}
use native.Mathlib.Omega.{arith}
use Rattle.std.specs.Prelude.{None}
use Rattle.writer.specs.Desk.{Means}
use Rattle.writer.proofs.Speeches.{no_kind, said, output_unset, unset_four, unset_five}
use Rattle.writer.proofs.speech.speak.Goals as goal

pub returns-in-2 : goal.returns-in-2
returns-in-2 c moduli tables = let e = c.args.entry in
    said moduli tables e 2 c.in-2.is refl ((rw c.from-named.ensures at c.unset.ensures) ∙ unset_five e.constant e.bit e.a e.b e.named) c.alone.ensures Means.input

pub returns-in-3 : goal.returns-in-3
returns-in-3 c moduli tables = let e = c.args.entry in
    said moduli tables e 3 c.in-3.is refl ((rw c.from-named.ensures at c.unset-in-3.ensures) ∙ unset_five e.modulus e.owner e.constant e.bit e.named) c.alone-in-3.ensures Means.add

pub returns-in-4 : goal.returns-in-4
returns-in-4 c moduli tables = let e = c.args.entry in
    said moduli tables e 4 c.in-4.is refl ((rw c.from-named.ensures at c.unset-in-4.ensures) ∙ unset_five e.modulus e.owner e.bit e.b e.named) c.alone-in-4.ensures Means.scale

pub returns-in-5 : goal.returns-in-5
returns-in-5 c moduli tables = let e = c.args.entry in
    said moduli tables e 5 c.in-5.is refl ((rw c.from-named.ensures at c.unset-in-5.ensures) ∙ unset_five e.modulus e.owner e.constant e.bit e.named) c.alone-in-5.ensures Means.multiply

pub returns-in-6 : goal.returns-in-6
returns-in-6 c moduli tables = let e = c.args.entry in
    said moduli tables e 6 c.in-6.is refl ((rw c.from-named.ensures at c.unset-in-6.ensures) ∙ unset_five e.owner e.constant e.bit e.b e.named) c.spoken.ensures Means.table

pub returns-in-8 : goal.returns-in-8
returns-in-8 c moduli tables = let e = c.args.entry in
    said moduli tables e 8 c.in-8.is refl ((rw c.from-named.ensures at c.unset-in-8.ensures) ∙ unset_four e.modulus e.owner e.constant e.named) c.spoken-in-8.ensures Means.choice

pub returns-in-10 : goal.returns-in-10
returns-in-10 c moduli tables =
    let e = c.args.entry in
    let byte : e.named < 256 = omega (arith, c.well_formed) in
    said moduli tables e 10 c.in-10.is refl (output_unset e byte (c.unset-in-10.ensures ∙ unset_five e.modulus e.owner e.constant e.bit e.b))
    (rw c.from-named.ensures at c.alone-in-10.ensures) (Means.output byte)

pub returns-in_default : goal.returns-in_default
returns-in_default c moduli tables =
    subst (Means moduli tables None)
    (sym (no_kind c.args.entry (omega arith) (omega arith) (omega arith) (omega arith) (omega arith) (omega arith) (omega arith) moduli tables))
    Means.silent
