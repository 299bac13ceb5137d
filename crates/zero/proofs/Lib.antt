-- The laws of zero keys and masks: where records lie, sums, what stands made, and each turn.
pub mod Made
pub mod Turns
