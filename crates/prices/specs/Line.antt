-- What the code says of the line that a text begins with.
-- Assumes nothing.
use Rattle.std.specs.Prelude.{cond, List, [], ◌∷◌, ℕ, Option, Some, None}
use Rattle.prices.specs.Lines.{byte_at, word_line}

-- a word's bytes where it is a line of 8 hexadecimal digits
unfoldable pub line_at : List ℕ → Option (List ℕ)
line_at text = cond (word_line text) (Some (byte_at text 6 ∷ byte_at text 4 ∷ byte_at text 2 ∷ byte_at text 0 ∷ [])) None
