-- The garbling scheme as document 01 writes it, in its order: what parties contribute, zero keys and masks, messages, rows; opening. Drawn
-- and Given state the theorem of proofs/Opened; no contract rests on them.
pub mod Contribution
pub mod Draw
pub mod Keyed
pub mod Zero
pub mod Message
pub mod Gate
pub mod Rows
pub mod Opening
pub mod Bytes
pub mod Drawn
pub mod Given
