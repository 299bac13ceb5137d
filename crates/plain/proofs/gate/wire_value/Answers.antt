-- `plain::wire_value` meets its contract: each arm knows the gate, so what its kind rests on. Assumes nothing.
use Rattle.plain.proofs.Arms.{at-input, at-add, at_scale, at_multiply, at_project, at-select}
use Rattle.plain.proofs.gate.wire_value.Goals as goal

pub bounds-values-w : goal.bounds-values-w
bounds-values-w c = at-input c.in-Input.is c.requires

pub sum-requires : goal.sum-requires
sum-requires c = at-add c.in-Add.is c.requires

pub scaled-requires : goal.scaled-requires
scaled-requires c = at_scale c.in-Scale.is c.requires

pub product-requires : goal.product-requires
product-requires c = at_multiply c.in-Multiply.is c.requires

pub projected-requires : goal.projected-requires
projected-requires c = at_project c.in-Project.is c.requires

pub selected-requires : goal.selected-requires
selected-requires c = at-select c.in-Select.is c.requires
