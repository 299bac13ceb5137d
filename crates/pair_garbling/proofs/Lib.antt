-- The laws of the pass: halves, their factors, gates from what is looked up, and the wires one after another.
pub mod Made
pub mod Factored
pub mod Arms
pub mod Looked
pub mod Turning
pub mod Masks
