-- What the checks of bytes against their moduli search for.
pub mod Large
pub mod Runs
