-- Document 01, "Examples", the price list's input: one word a line as 8 hexadecimal digits of either case, at most 16,384 lines; the last
-- may lack its newline. A line is what stands between newlines.
-- Assumes nothing.
use Rattle.std.specs.Prelude.{Bool, true, false, cond, ◌&&◌, List, [], ◌∷◌, ◌++◌, ℕ, zero, suc, ◌+◌, ◌-◌, ◌*◌, eqb, ltb, leb, get_or, drop}
use Rattle.prices.specs.Characters.{newline}

-- a character lies from one to another
abbrev pub between : ℕ → ℕ → ℕ → Bool
between low high c = leb low c && leb c high

-- the value of a hexadecimal digit, 0 to 9, A to F, a to f; 16 where a character is none of them. 48, 65 and 97 are the characters
-- 0, A and a.
unfoldable pub hex_value : ℕ → ℕ
hex_value c =
    cond (between 48 57 c) (c - 48) (cond (between 65 70 c) (10 + (c - 65)) (cond (between 97 102 c) (10 + (c - 97)) 16))

abbrev pub is_hex : ℕ → Bool
is_hex c = ltb (hex_value c) 16

-- the text's first n characters are hexadecimal digits
unfoldable pub hex_digits : ℕ → List ℕ → Bool
hex_digits zero text = true
hex_digits (suc n) [] = false
hex_digits (suc n) (c ∷ text) = is_hex c && hex_digits n text

-- here the line ends
unfoldable pub line_ends : List ℕ → Bool
line_ends [] = true
line_ends (c ∷ text) = eqb c newline

-- the text begins with a line of 8 hexadecimal digits
unfoldable pub word_line : List ℕ → Bool
word_line text = hex_digits 8 text && line_ends (drop 8 text)

-- the byte that the digits at a place and after it stand for
unfoldable pub byte_at : List ℕ → ℕ → ℕ
byte_at text i = 16 * hex_value (get_or text i 0) + hex_value (get_or text (i + 1) 0)

-- the word's four bytes as they lie in a circuit file, the least significant first
abbrev pub word_bytes : List ℕ → List ℕ
word_bytes text = byte_at text 6 ∷ byte_at text 4 ∷ byte_at text 2 ∷ byte_at text 0 ∷ []

-- what the lines come to: the bytes of a circuit file, or the first line of another form, counted from 1, or a line too many
pub data Lines : Type 0 where
  file : List ℕ → Lines
  bad_line : ℕ → Lines
  too_long : Lines

unfoldable pub is_empty : List ℕ → Bool
is_empty [] = true
is_empty (c ∷ text) = false

-- the lines from the n-th on, of which so many more are allowed, with the bytes of the lines before it. A good line is 8 characters and
-- its newline, so the next starts 9 further on; a bad line ends the reading, so where it ends is never asked.
unfoldable pub lines_from : ℕ → ℕ → List ℕ → List ℕ → Lines
lines_from zero n text bytes = cond (is_empty text) (file bytes) too_long
lines_from (suc left) n text bytes =
    cond (is_empty text) (file bytes)
    (cond (word_line text) (lines_from left (n + 1) (drop 9 text) (bytes ++ word_bytes text))
    (bad_line n))

unfoldable pub lines_of : List ℕ → Lines
lines_of text = lines_from 16384 1 text []
