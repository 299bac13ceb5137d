-- Laws of the session's checks: when they pass, and what the code's answers come to.
pub mod Sessions
pub mod Circuits
pub mod Searches
pub mod Named
