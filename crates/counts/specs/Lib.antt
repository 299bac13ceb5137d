-- What a circuit counts.
pub mod Recipe
pub mod Counts
pub mod Kinds
pub mod Moduli
-- what functions promise each other, in the code's terms
pub mod Images
