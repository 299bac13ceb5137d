-- Laws of garbling and opening as calls.
pub mod Garbles
pub mod Opens
