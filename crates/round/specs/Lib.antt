-- The calls of a round, each with its checks in order and what it writes; the round; the claim; each party's sheet of output masks; bits that are copied;
-- the meter after any garblings.
pub mod Round
pub mod Claim
pub mod Played
pub mod Sheets
pub mod Copies
pub mod Metered
pub mod Example
