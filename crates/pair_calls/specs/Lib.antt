-- What the checks of the calls rest on, on a circuit of the code, and the stages between those that the definitions name.
pub mod Counted
pub mod Lent
pub mod Asked
