-- Tables of moduli, a check of two buffers at once, and what the calls ask of what they are lent.
pub mod Tables
pub mod Either
pub mod Decoding
pub mod Masking
pub mod Keying
