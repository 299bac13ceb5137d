-- Laws of a contribution's places and of the checks of its bytes.
pub mod Sizes
pub mod Cursor
pub mod Once
pub mod Large
pub mod Runs
pub mod Wired
pub mod Offsets
pub mod Joined
