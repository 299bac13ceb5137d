-- The price list: lines of hexadecimal words in, a table of rows out.
pub mod Characters
pub mod Lines
pub mod Decimal
pub mod Prices
pub mod Placed
-- what functions promise each other, in the code's terms
pub mod Line
pub mod Found
