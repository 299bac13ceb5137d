-- The two-party form as document 02's order 8 writes it, in its order: keys, what the garbler draws, halves, gates, the circuit, opening; then the
-- calls. Undone states the theorem of proofs/Undone; no contract rests on it.
pub mod Key
pub mod Draw
pub mod Half
pub mod Gate
pub mod Count
pub mod Rows
pub mod Opening
pub mod Bytes
pub mod Undone
pub mod Read
pub mod Garble
pub mod InputKeys
pub mod Open
pub mod Decode
