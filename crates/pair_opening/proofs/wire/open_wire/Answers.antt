-- `pair_opening::open_wire` meets its contract: each arm knows the gate, so what its kind rests on. Assumes nothing.
use Rattle.pair_opening.proofs.Arms.{at-input, at-add, at_scale, at_multiply, at_project, opens-input, opens-add, opens_scale, opens_multiply, opens_project, opens-select}
use Rattle.pair_opening.proofs.wire.open_wire.Goals as goal

pub input-requires : goal.input-requires
input-requires c = (at-input c.in-Input.is c.requires.1.0, c.requires.1.1)

pub sum-requires : goal.sum-requires
sum-requires c = (c.requires.0, (at-add c.in-Add.is c.requires.1.0, c.requires.1.1))

pub multiple-requires : goal.multiple-requires
multiple-requires c = (c.requires.0, (at_scale c.in-Scale.is c.requires.1.0, c.requires.1.1))

pub by_product-requires : goal.by_product-requires
by_product-requires c = (c.requires.0, (at_multiply c.in-Multiply.is c.requires.1.0, c.requires.1.1))

pub by_table-requires : goal.by_table-requires
by_table-requires c = (c.requires.0, (at_project c.in-Project.is c.requires.1.0, c.requires.1.1))

pub returns-in-Input : goal.returns-in-Input
returns-in-Input c = opens-input c.args.turn c.args.keys.now c.args.rows.now c.args.wkeys.now c.in-Input.is c.input.ensures

pub returns-in-Add : goal.returns-in-Add
returns-in-Add c = opens-add c.args.turn c.args.keys.now c.args.rows.now c.args.wkeys.now c.in-Add.is c.sum.ensures

pub returns-in-Scale : goal.returns-in-Scale
returns-in-Scale c = opens_scale c.args.turn c.args.keys.now c.args.rows.now c.args.wkeys.now c.in-Scale.is c.multiple.ensures

pub returns-in-Multiply : goal.returns-in-Multiply
returns-in-Multiply c = opens_multiply c.args.turn c.args.keys.now c.args.rows.now c.args.wkeys.now c.in-Multiply.is c.by_product.ensures

pub returns-in-Project : goal.returns-in-Project
returns-in-Project c = opens_project c.args.turn c.args.keys.now c.args.rows.now c.args.wkeys.now c.in-Project.is c.by_table.ensures

pub returns-in-Select : goal.returns-in-Select
returns-in-Select c = opens-select c.args.turn c.args.keys.now c.args.rows.now c.args.wkeys.now c.in-Select.is c.requires.1.1 (c.fill.ensures.after (λ y e. e))
