-- Whole numbers over the wires: primes, residues, the parts of a circuit, and the five calls.
pub mod Primes
pub mod Integers
pub mod Part
pub mod Call
-- what functions promise each other, in the code's terms
pub mod Climb
pub mod Laying
