-- The row meter, and what it holds after any garblings.
pub mod Meter
pub mod Garblings
