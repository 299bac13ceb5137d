-- What the answers of all calls mean.
pub mod Answer
pub mod Checked
