-- Laws of the program: what a read puts behind what stands in the buffer, and what is written of the whole input.
pub mod Sheet
