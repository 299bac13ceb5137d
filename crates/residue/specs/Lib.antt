pub mod Prime
pub mod Residue
pub mod Vector
