-- What a wire's rows are made of, as the pass looks it up, and the sheets of output masks.
pub mod Source
pub mod Sheets
