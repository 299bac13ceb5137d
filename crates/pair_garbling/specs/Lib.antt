-- What the pass asks and makes, as the code holds it: halves, gates from what is looked up, and the whole pass.
pub mod Halves
pub mod Source
pub mod Ready
