-- Document 01, "Where each check stands": the checks of contributions, keys and rows, 16 to 18.
-- Assumes nothing.
use Rattle.std.specs.Prelude.{Bool, true, ◌&&◌, List, [], ◌∷◌, ℕ, ◌*◌, eqb, length, get_or}
use Rattle.lists.specs.Blocks.{blocks, runs, part, nth_piece}
use Rattle.checks.specs.declared.Refusal.{Refusal}
use Rattle.checks.specs.declared.Refusal.TheVariants.{ContributionTooLarge, ZeroOffset, KeyOrRowTooLarge}
use Rattle.checks.specs.Checked.{none_bad}
use Rattle.words.specs.declared.gate.Wire.{Wire}
use Rattle.circuit.specs.Wires.{modulus_at, inputs_in}
use Rattle.counts.specs.Counts.{rows_of}
use Rattle.counts.specs.Moduli.{used, some_below}
use Rattle.scheme.specs.Contribution.{contribution_size, contribution_moduli, offset_at}
use Rattle.session.specs.Session.{too_large}
use Rattle.checks.specs.Answer.{Answer}

-- each byte against its modulus; the lowest bad one is named
unfoldable pub bytes_checked : List ℕ → List ℕ → Refusal → Answer
bytes_checked xs moduli reason = none_bad (length xs) (too_large xs (λ i. get_or moduli i 0)) reason

unfoldable pub all_zero : List ℕ → Bool
all_zero [] = true
all_zero (x ∷ xs) = eqb x 0 && all_zero xs

module _ (n K : ℕ) (wires : List Wire) where
  -- 16: n contributions, one after another
  unfoldable pub contributions_checked : List ℕ → Answer
  contributions_checked contributions =
      bytes_checked contributions (blocks n (λ party. contribution_moduli K wires)) ContributionTooLarge

  -- 17: no party's offset of a modulus in use is zero
  unfoldable pub zero_offset : List ℕ → ℕ → Bool
  zero_offset contributions p =
      used wires p && some_below n (λ party. all_zero (part (nth_piece contributions (contribution_size K wires) party) (offset_at K wires p) K))

  unfoldable pub offsets_checked : List ℕ → Answer
  offsets_checked contributions = none_bad 256 (zero_offset contributions) ZeroOffset

  -- 18: a bad key byte is named before any row byte; a key byte is judged by the input's modulus, a row byte by the receiving one
  unfoldable pub keys_checked : List ℕ → Answer
  keys_checked keys = bytes_checked keys (runs (inputs_in wires) (λ w. n * K) (modulus_at wires)) KeyOrRowTooLarge

  -- .. where each wire has so many rows
  unfoldable pub counted_rows_checked : (ℕ → ℕ) → List ℕ → Answer
  counted_rows_checked count rows = bytes_checked rows (runs (length wires) (λ w. count w * (n * K)) (modulus_at wires)) KeyOrRowTooLarge

  abbrev pub rows_checked : List ℕ → Answer
  rows_checked = counted_rows_checked (rows_of wires)
