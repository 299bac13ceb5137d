-- What the editor is promised.
pub mod Promise
pub mod Calls
pub mod Example
