-- Laws of checks: when they accept, and how the code puts an answer together.
pub mod Passed
pub mod Answers
pub mod Numbers
