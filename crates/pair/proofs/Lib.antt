-- Laws of the two-party form: keys, halves and their missing row, steps from wire to wire, sizes, and that opening undoes garbling.
pub mod External
pub mod Halves
pub mod Steps
pub mod Sizes
pub mod Reduced
pub mod Gates
pub mod Apart
pub mod Undone
pub mod Selects
