-- The plain circuit, and plain evaluation as a call.
pub mod Plain
pub mod Call
-- what functions promise each other, in the code's terms
pub mod Ready
