-- Laws of the calls that read a circuit: what is counted.
pub mod Counting
