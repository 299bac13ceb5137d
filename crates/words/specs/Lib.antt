-- Words of the circuit file, what they say, and what that does where it stands.
pub mod Bits
pub mod Items
pub mod Reading
pub mod Encode
pub mod Fits
-- what functions promise each other, in the code's terms
pub mod Entries
pub mod Cut
