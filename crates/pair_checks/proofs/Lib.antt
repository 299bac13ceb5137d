-- Rows counted in the two-party form; its checks: a draw's size and the searches in it, and the answers that they come to.
pub mod Counting
pub mod Draws
pub mod Marks
pub mod Named
pub mod Placed
