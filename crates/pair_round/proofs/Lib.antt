-- The claim: every call of a round of two accepts, and document 01's decoding gives the plain circuit's outputs; the meter after any garblings.
pub mod Draws
pub mod Start
pub mod Garbled
pub mod Keys
pub mod RowBytes
pub mod Opened
pub mod Decoded
pub mod Claim
pub mod Demand
pub mod Possible
pub mod Example
pub mod Metered
