-- Laws of whole numbers over the wires.
-- remainders by several moduli, and by the first ten primes
pub mod Chinese
pub mod JoinedLaws
-- the words of a part
pub mod Laid
-- the checks
pub mod Verdicts
