-- One turn of the pass, and what opening asks of what it is handed.
pub mod Given
pub mod Step
pub mod Ready
pub mod Swept
