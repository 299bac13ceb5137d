-- Document 01, "Select": "After the chooser, only the corrector named by the bit's external value is opened".
-- Assumes nothing.
use Rattle.std.specs.Prelude.{List, ℕ, zero, suc}

-- of the rows of the two correctors, those that the bit's external value names: the first for 0, else the second
unfoldable pub named_corrector : ℕ → List ℕ → List ℕ → List ℕ
named_corrector zero first second = first
named_corrector (suc bit) first second = second
