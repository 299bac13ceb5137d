-- The calls of a round, each with its checks in order and what it writes.
pub mod Garble
pub mod Externals
pub mod InputKeys
pub mod Open
pub mod Decode
