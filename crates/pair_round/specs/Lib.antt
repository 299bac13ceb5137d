-- The calls of a round of two; the claim; the calls' promises; the meter after any garblings of either form.
pub mod Round
pub mod Claim
pub mod Played
pub mod Metered
pub mod Example
