-- What a rehearsed round of two comes to.
pub mod Rehearsed
