-- The laws of rows: sizes, factors and rows one after another, and what the code makes of a message.
pub mod Sizes
pub mod Filling
pub mod Rowwise
pub mod Messages
