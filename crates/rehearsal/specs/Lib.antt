-- A round, played with the calls.
pub mod Hosts
pub mod Turns
pub mod Rehearsed
