-- What the calls that read a circuit answer and write.
pub mod Summary
pub mod InputsOf
pub mod Read
