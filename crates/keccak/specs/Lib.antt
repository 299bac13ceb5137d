pub mod Lanes
pub mod Offsets
pub mod RoundConstants
pub mod Steps
pub mod Keccak
