-- What garbling asks of what it is handed, and what each step towards zero keys and masks asks.
pub mod Ready
pub mod Turn
