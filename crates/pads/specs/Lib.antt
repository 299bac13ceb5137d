pub mod Pad
pub mod Factored
pub mod Moved
pub mod Binding
pub mod Senders
