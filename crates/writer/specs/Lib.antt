-- The writer: what a record says, what writing a list of records comes to, the list of a file that was read, and the two calls.
pub mod Says
pub mod Written
pub mod Listed
pub mod Call
-- what functions promise each other, in the code's terms
pub mod Desk
pub mod Walked
pub mod Settling
pub mod Closing
pub mod Listing
