-- Laws of the writer.
-- what the functions do to the pen, the moduli and the file
pub mod Puts
pub mod Desks
pub mod Tables
pub mod Speeches
pub mod Settles
-- the desk holds the draft, item by item, table by table, record by record, and what the call then promises
pub mod HoldingFiles
pub mod HoldingFacts
pub mod Holding
pub mod HoldingTables
pub mod Walks
pub mod Closings
-- loading a file
pub mod Listings
