-- What document 01 works out in numbers, and a row with its real pads.
pub mod Marked
pub mod Row
