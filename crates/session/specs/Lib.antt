-- What several calls share: the session's checks.
pub mod Session
-- what functions promise each other, in the code's terms
pub mod Sizes
