pub mod Same
pub mod Tried
pub mod Named
