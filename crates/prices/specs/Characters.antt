-- The characters that the price list reads and prints, as ASCII bytes.
-- Assumes nothing.
use Rattle.std.specs.Prelude.{List, [], ◌∷◌, ℕ}

-- 10 ends a line
abbrev pub newline : ℕ
newline = 10

abbrev pub space : ℕ
space = 32

-- the character 0, which the other digits follow
abbrev pub digit_zero : ℕ
digit_zero = 48

-- "too long"
abbrev pub too_long_text : List ℕ
too_long_text = 116 ∷ 111 ∷ 111 ∷ 32 ∷ 108 ∷ 111 ∷ 110 ∷ 103 ∷ []

-- "bad line "
abbrev pub bad_line_text : List ℕ
bad_line_text = 98 ∷ 97 ∷ 100 ∷ 32 ∷ 108 ∷ 105 ∷ 110 ∷ 101 ∷ 32 ∷ []

-- "refused "
abbrev pub refused_text : List ℕ
refused_text = 114 ∷ 101 ∷ 102 ∷ 117 ∷ 115 ∷ 101 ∷ 100 ∷ 32 ∷ []

-- "at "
abbrev pub at_text : List ℕ
at_text = 97 ∷ 116 ∷ 32 ∷ []

-- "wire kind modulus rows"
abbrev pub head_text : List ℕ
head_text =
    119 ∷ 105 ∷ 114 ∷ 101 ∷ 32 ∷ 107 ∷ 105 ∷ 110 ∷ 100 ∷ 32 ∷ 109 ∷ 111 ∷ 100 ∷ 117 ∷ 108 ∷ 117 ∷ 115 ∷ 32 ∷ 114 ∷ 111 ∷ 119 ∷ 115 ∷ []

-- "total "
abbrev pub total_text : List ℕ
total_text = 116 ∷ 111 ∷ 116 ∷ 97 ∷ 108 ∷ 32 ∷ []
