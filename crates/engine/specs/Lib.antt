-- What C is told of a call that gives a number.
pub mod Told
