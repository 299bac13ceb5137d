-- Laws of words.
pub mod Files
pub mod Fitting
pub mod Steps
pub mod Judged
