-- The laws of garbling.
pub mod Fronts
pub mod Looked
pub mod Arms
pub mod Garbled
pub mod Sheets
