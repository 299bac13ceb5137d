-- Document 01, "Examples", what the price list prints. Every printed line ends in a newline.
-- Assumes nothing.
use Rattle.std.specs.Prelude.{List, [], ◌∷◌, ◌++◌, ℕ, length}
use Rattle.lists.specs.Blocks.{blocks}
use Rattle.checks.specs.Answer.{Answer, number_of}
use Rattle.words.specs.declared.gate.Wire.{Wire}
use Rattle.circuit.specs.Wires.{wire_at, modulus_at}
use Rattle.circuit.specs.File.{read_file}
use Rattle.counts.specs.Counts.{rows_of, rows_in}
use Rattle.counts.specs.Kinds.{kind_of}
use Rattle.prices.specs.Characters.{newline, space, too_long_text, bad_line_text, refused_text, at_text, head_text, total_text}
use Rattle.prices.specs.Decimal.{decimal}
use Rattle.prices.specs.Lines.{Lines, lines_of}
use Rattle.prices.specs.Lines.Lines.{file, bad_line, too_long}
use Rattle.std.specs.Prelude.{Ok, Err}

-- a number in decimal, and the character behind it
abbrev pub number_and : ℕ → ℕ → List ℕ
number_and c n = decimal n ++ (c ∷ [])

-- four numbers, one line
unfoldable pub line_of : ℕ → ℕ → ℕ → ℕ → List ℕ
line_of a b c d = number_and space a ++ number_and space b ++ number_and space c ++ number_and newline d

-- wire number, kind, output modulus and rows in decimal
abbrev pub wire_line : List Wire → ℕ → List ℕ
wire_line wires w = line_of w (kind_of (wire_at wires w).gate) (modulus_at wires w) (rows_of wires w)

unfoldable pub wire_lines : List Wire → List ℕ
wire_lines wires = blocks (length wires) (wire_line wires)

unfoldable pub listing : List Wire → List ℕ
listing wires = head_text ++ (newline ∷ []) ++ wire_lines wires ++ total_text ++ number_and newline (rows_in wires)

-- `refused 5 at 3`: number, word
unfoldable pub refusal : ℕ → ℕ → List ℕ
refusal number place = refused_text ++ number_and space number ++ at_text ++ number_and newline place

-- a circuit that was read, or refused
unfoldable pub listed : Answer → List Wire → List ℕ
listed (Ok done) wires = listing wires
listed (Err why) wires = refusal (number_of why.reason) why.place

-- what is printed for the lines
unfoldable pub printed : Lines → List ℕ
printed (file bytes) = listed (read_file bytes).answer (read_file bytes).wires
printed (bad_line n) = bad_line_text ++ number_and newline n
printed too_long = too_long_text ++ (newline ∷ [])

-- text in, text out
unfoldable pub price_list : List ℕ → List ℕ
price_list text = printed (lines_of text)
