-- What opening for two asks, one turn of its pass, and what a turn rests on.
pub mod Given
pub mod Ready
pub mod Step
