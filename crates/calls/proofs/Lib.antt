-- A party's own inputs, in wire order.
pub mod OwnInputs
