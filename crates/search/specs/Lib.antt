-- What opening finds: the first multiplier that fits, and the corrector that is opened.
pub mod Search
pub mod Corrector
