pub mod Tables
pub mod Fits
pub mod Rotation
pub mod Known
