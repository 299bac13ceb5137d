pub mod Numbers
pub mod Padding
pub mod Read
pub mod Shake
pub mod Stream
