-- Document 02, order 8: the checks of the two-party form that stand beside document 01's.
-- Assumes nothing.
use Rattle.std.specs.Prelude.{Bool, not, ◌&&◌, List, ℕ, eqb}
use Rattle.checks.specs.declared.Refusal.TheVariants.{SelectPresent, ContributionTooLarge, OffsetNotOne}
use Rattle.checks.specs.Checked.{and_then, none_bad}
use Rattle.words.specs.Bits.{kind, word_at}
use Rattle.words.specs.declared.gate.Wire.{Wire}
use Rattle.circuit.specs.File.{words_in}
use Rattle.counts.specs.Moduli.{used}
use Rattle.session.specs.Session.{file_checked}
use Rattle.scheme.specs.Bytes.{bytes_checked, keys_checked, counted_rows_checked}
use Rattle.pair.specs.Key.{external_of}
use Rattle.pair.specs.Draw.{draw_moduli, offset_in}
use Rattle.pair.specs.Count.{pair_rows_of}
use Rattle.checks.specs.Answer.{Answer}

-- 26: "names the first selector's word": kind 8
abbrev pub is_select_word : List ℕ → ℕ → Bool
is_select_word file i = eqb (kind (word_at file i)) 8

unfoldable pub selects_checked : List ℕ → Answer
selects_checked file = none_bad (words_in file) (is_select_word file) SelectPresent

-- 1 to 10, then 26
abbrev pub pair_file_checked : List ℕ → Answer
pair_file_checked file = and_then (file_checked file) (selects_checked file)

module _ (K : ℕ) (wires : List Wire) where
  -- 16, of what the garbler drew
  unfoldable pub draw_checked : List ℕ → Answer
  draw_checked draw = bytes_checked draw (draw_moduli K wires) ContributionTooLarge

  -- 27: "an offset with component 0 other than 1 .., at the lowest such modulus"
  unfoldable pub not_one : List ℕ → ℕ → Bool
  not_one draw p = used wires p && not (eqb (external_of (offset_in K wires draw p)) 1)

  unfoldable pub units_checked : List ℕ → Answer
  units_checked draw = none_bad 256 (not_one draw) OffsetNotOne

  -- 16, then 27
  abbrev pub drawn_checked : List ℕ → Answer
  drawn_checked draw = and_then (draw_checked draw) (units_checked draw)

  -- 18: keys, then rows
  abbrev pub pair_bytes_checked : List ℕ → List ℕ → Answer
  pair_bytes_checked keys rows = and_then (keys_checked 1 K wires keys) (counted_rows_checked 1 K wires (pair_rows_of wires) rows)
