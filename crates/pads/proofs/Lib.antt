pub mod Folded
pub mod Taken
pub mod Reduced
pub mod Sizes
pub mod Moving
pub mod Senders
