-- The examples come out as printed.
pub mod Marked
pub mod Row
