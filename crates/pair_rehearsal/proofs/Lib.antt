-- The calls of a rehearsal are those of a round of two (Rehearses).
pub mod Rehearses
