-- Laws of the calls of the two-party form: the checks after reading, the loop that writes the input keys, and how each call ends.
pub mod Shared
pub mod Keying
pub mod Garbles
pub mod Opens
pub mod Decodes
