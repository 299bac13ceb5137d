-- Laws of the scheme: layout of contributions, what they draw, and that opening undoes garbling.
pub mod Search
pub mod Drawn
pub mod Bounds
pub mod ByteChecks
pub mod ByteModuli
pub mod Contributed
pub mod EachBelow
pub mod Messages
pub mod Opened
pub mod Padded
pub mod Places
pub mod Known
pub mod Gates
pub mod Steps
pub mod Used
