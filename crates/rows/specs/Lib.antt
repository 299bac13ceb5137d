-- What the rows of a gate are made of, as the code holds it, and what making them asks.
pub mod Made
