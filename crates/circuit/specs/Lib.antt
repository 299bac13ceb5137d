-- The circuit file as a whole, who may read an output, what an accepted circuit satisfies, and how the code holds one.
pub mod Wires
pub mod File
pub mod Named
pub mod Accepted
pub mod Held
-- what functions promise each other, in the code's terms
pub mod Entry
