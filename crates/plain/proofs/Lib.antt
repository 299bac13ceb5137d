-- The laws of plain evaluation.
pub mod Residues
pub mod ByRecipe
pub mod Arms
pub mod Arrays
pub mod Ending
pub mod Examples
