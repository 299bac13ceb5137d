-- Document 02, order 9: the parties that an output names, and which party may read it.
-- Assumes nothing.
use Rattle.std.specs.Prelude.{Bool, ◌||◌, List, ℕ, ◌/◌, ◌%◌, ◌^◌, eqb, get_or}

-- bit 10 + s of the word, bit s of what it names, is party s
abbrev pub names : ℕ → ℕ → Bool
names parties s = eqb (parties / 2 ^ s % 2) 1

-- all zero means every party taking part
unfoldable pub may_read : ℕ → ℕ → Bool
may_read parties s = eqb parties 0 || names parties s

-- whether a party may read the output at an index, where each output names these
abbrev pub readable : List ℕ → ℕ → ℕ → Bool
readable named party i = may_read (get_or named i 0) party
