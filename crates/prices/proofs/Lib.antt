-- Laws of the price list's text.
pub mod Digits
pub mod Texts
pub mod Hex
pub mod Words
pub mod Table
pub mod Enough
