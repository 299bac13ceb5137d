-- The laws of the counts.
pub mod Wires
pub mod Recipes
pub mod Counting
pub mod Marked
pub mod Formula
pub mod Examples
