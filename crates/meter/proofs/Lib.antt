-- Laws of the row meter.
pub mod Totals
pub mod Garblings
