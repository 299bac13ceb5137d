-- `prices::sheet::price_list` meets its contract. Assumes nothing.
use mathlib.Core.Path.{sym, ap, ◌∙◌}
use Prim.Native.Nat.{ℕ}
use native.Mathlib.Omega.{arith}
use lib.Seq.{length-take-le}
use Rattle.std.specs.Prelude.{Err}
use Rattle.prices.specs.declared.lines.Unread.{Unread}
use Rattle.prices.specs.Found.{comes_to}
use Rattle.prices.specs.Lines.Lines.{bad_line}
use Rattle.prices.specs.Prices.{printed}
use Rattle.prices.proofs.Table.{placed_as, found-most, price_is}
use Rattle.prices.proofs.sheet.price_list.Goals as goal

pub slice_bounds-file-end : goal.slice_bounds-file-end
slice_bounds-file-end c = omega (arith, c.read_lines.auto.file, found-most c.args.text.now c.read_lines.ensures c.in-Ok.is)

pub slice_bounds-put_circuit-end : goal.slice_bounds-put_circuit-end
slice_bounds-put_circuit-end c = sym (length-take-le c.in-Ok.n c.read_lines.new.file (omega (arith, c.read_lines.auto.file, found-most c.args.text.now c.read_lines.ensures c.in-Ok.is)))

pub returns-in-Ok : goal.returns-in-Ok
unfolding comes_to printed
returns-in-Ok c = placed_as c.put_circuit.ensures (price_is c.args.text.now c.read_lines.ensures c.in-Ok.is)

pub returns-in-Err-BadLine : goal.returns-in-Err-BadLine
unfolding comes_to
returns-in-Err-BadLine c =
    let here = c.in-Err-BadLine in
    placed_as c.put_bad_line.ensures
    (ap (λ (n : ℕ). printed (bad_line n)) here.n-is ∙ price_is c.args.text.now c.read_lines.ensures (here.is ∙ ap (λ (why : Unread). Err why) here.field-0-is))

pub returns-in-Err-TooLong : goal.returns-in-Err-TooLong
unfolding comes_to
returns-in-Err-TooLong c =
    let here = c.in-Err-TooLong in
    placed_as c.put_too_long.ensures (price_is c.args.text.now c.read_lines.ensures (here.is ∙ ap (λ (why : Unread). Err why) here.field-0-is))
