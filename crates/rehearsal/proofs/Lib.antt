-- What playing a round rests on.
pub mod InTurn
pub mod Turns
pub mod Interleaved
pub mod Own
pub mod Asked
pub mod Gathered
pub mod Rehearses
pub mod Sized
pub mod Instance
