-- `pair_garbling::wires::put_gate` meets its contract: each arm knows the gate, so what it reads and what it makes.
-- Assumes nothing.
use mathlib.Core.Path.{ap, ◌∙◌}
use Prim.Native.Nat.{ℕ}
use lib.ListN.{replicate}
use Rattle.pair_garbling.proofs.Arms.{above_0, at-input, at-add, at_scale, at-product, at-modulus, at_table, input-made, add-made, scale_made, product-made, table-made, select-made}
use Rattle.pair_garbling.proofs.wires.put_gate.Goals as goal

pub put_input-requires : goal.put_input-requires
put_input-requires c = (at-input c.requires.0 c.in-Input.is, c.requires.1)

pub put_sum-requires : goal.put_sum-requires
put_sum-requires c = (above_0 c.requires.0, (at-add c.requires.0 c.in-Add.is, c.requires.1))

pub put_multiple-requires : goal.put_multiple-requires
put_multiple-requires c = (above_0 c.requires.0, (at_scale c.requires.0 c.in-Scale.is, c.requires.1))

pub put_product-requires : goal.put_product-requires
put_product-requires c = let o = at-product c.requires.0 c.in-Multiply.is in
    record { ranged = o.0; key_len = (c.requires.1, o.1) }

pub bounds-source-from : goal.bounds-source-from
bounds-source-from c = at-modulus c.requires.0 c.in-Project.is c.from.ensures

pub put_table-requires : goal.put_table-requires
put_table-requires c = let o = at_table c.requires.0 c.in-Project.is c.from.ensures in
    record { ranged = o.0; key_len = (c.requires.1, o.1) }

pub returns-in-Input : goal.returns-in-Input
returns-in-Input c = input-made c.requires.0 c.in-Input.is c.put_input.ensures

pub returns-in-Add : goal.returns-in-Add
returns-in-Add c = add-made c.requires.0 c.in-Add.is c.put_sum.ensures

pub returns-in-Scale : goal.returns-in-Scale
returns-in-Scale c = scale_made c.requires.0 c.in-Scale.is c.put_multiple.ensures

pub returns-in-Multiply : goal.returns-in-Multiply
returns-in-Multiply c = product-made c.requires.0 c.in-Multiply.is c.put_product.ensures

pub returns-in-Project : goal.returns-in-Project
returns-in-Project c = table-made c.requires.0 c.in-Project.is c.from.ensures c.put_table.ensures

pub returns-in-Select : goal.returns-in-Select
returns-in-Select c = select-made c.requires.0 c.in-Select.is (c.fill.ensures.after (λ y e. e) ∙ ap (λ (n : ℕ). replicate n 0) c.requires.1)
