-- What the checks of garbling and opening rest on, on a circuit of the code.
pub mod Garbled
pub mod Opened
