-- The theorems: `written_is_read` in Forwards, `read_is_written` in Backwards, `refused_is_refused` in Refusing; each with the files of its name before it.
-- a word and what it says, both ways
pub mod Encoded
pub mod Decoded
pub mod Files
pub mod ForwardsDrafts
pub mod ForwardsStep
pub mod ForwardsRecords
pub mod ForwardsListed
pub mod ForwardsTaken
pub mod ForwardsProject
pub mod Forwards
pub mod BackwardsTables
pub mod BackwardsItems
pub mod BackwardsLaid
pub mod BackwardsWrote
pub mod BackwardsAhead
pub mod Backwards
pub mod RefusingRun
pub mod RefusingStops
pub mod Refusing
-- .. and over the two calls: `written_is_loaded`, `loaded_is_written`
pub mod Calls
-- an instance of the first
pub mod Example
