-- Laws of whole circuits: what one word does (Word), one wire more (More), what each word keeps (State), the theorem on accepted
-- files (Accepted), that whom outputs name is what their words say (Outputs), what acceptance says of moduli (Moduli), one turn of the reader's loop (Turn), whom outputs name (Lookback), who
-- may read one (Allowed), a run of entries (Entry), and files read by computation (Examples).
pub mod Word
pub mod More
pub mod State
pub mod Accepted
pub mod Outputs
pub mod Moduli
pub mod Turn
pub mod Lookback
pub mod Allowed
pub mod Entry
pub mod Examples
