-- The laws of opening.
pub mod Bared
pub mod Correctors
pub mod Reached
pub mod Turns
pub mod Opens
pub mod Prepared
pub mod Sweep
pub mod Loop
