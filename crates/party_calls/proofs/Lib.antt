-- Laws of the calls that hand bytes from party to party: tables of moduli, checks of several buffers, and each call's own.
pub mod TableLoops
pub mod TwoBuffers
pub mod Ending
pub mod Decodes
pub mod OwnExternals
pub mod KeyPlaces
