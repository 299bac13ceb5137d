-- Bundles in a circuit, parts among its words, and what is promised of both.
pub mod Reach
pub mod Bundle
pub mod Promise
pub mod Host
pub mod Pair
pub mod Example
