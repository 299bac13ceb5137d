-- The call for opening in the two-party form, from the input keys and the rows: one key and one external byte per wire.
-- Assumes nothing.
use Rattle.std.specs.Prelude.{◌≡◌, List, [], ◌∷◌, ℕ, ◌*◌, length}
use Rattle.checks.specs.Checked.{Reports, and_then, afterwards}
use Rattle.words.specs.declared.gate.Wire.{Wire}
use Rattle.circuit.specs.Wires.{inputs_in}
use Rattle.circuit.specs.File.{read_file}
use Rattle.pads.specs.Pad.{Pad, shake_pad}
use Rattle.session.specs.Session.{session_checked, owners_checked, lengths_checked}
use Rattle.pair.specs.Count.{pair_rows_in}
use Rattle.pair.specs.Opening.{pair_wire_keys, pair_wire_externals}
use Rattle.pair.specs.Bytes.{pair_file_checked, pair_bytes_checked}
use Rattle.checks.specs.Answer.{Answer}

-- on the wires of a circuit
module _ (K : ℕ) (wires : List Wire) (keys rows : List ℕ) where
  -- 14, where so many bytes are lent for the wires' keys and external values
  abbrev pub pair_open_lengths : ℕ → ℕ → Answer
  pair_open_lengths wkeys wexternals =
      lengths_checked (length keys ∷ length rows ∷ wkeys ∷ wexternals ∷ [])
      (inputs_in wires * K ∷ pair_rows_in wires * K ∷ length wires * K ∷ length wires ∷ [])

  -- 14, then 18
  abbrev pub pair_open_lent : ℕ → ℕ → Answer
  pair_open_lent wkeys wexternals = and_then (pair_open_lengths wkeys wexternals) (pair_bytes_checked K wires keys rows)

  -- 11 and 13, then those
  abbrev pub pair_open_asked : ℕ → ℕ → Answer
  pair_open_asked wkeys wexternals = and_then (session_checked 2 K) (and_then (owners_checked 2 wires) (pair_open_lent wkeys wexternals))

-- the call: the file first
module _ (file : List ℕ) (K : ℕ) (keys rows wkeys wexternals : List ℕ) where
  unfoldable pub pair_open_checked : Answer
  pair_open_checked =
      and_then (pair_file_checked file) (pair_open_asked K (read_file file).wires keys rows (length wkeys) (length wexternals))

module _ (pad : Pad) (file : List ℕ) (K : ℕ) (keys rows wkeys wexternals : List ℕ) where
  abbrev wires : List Wire
  wires = (read_file file).wires

  unfoldable pub pair_open_keys : List ℕ
  pair_open_keys = afterwards (pair_open_checked file K keys rows wkeys wexternals) (pair_wire_keys pad K wires keys rows) wkeys

  unfoldable pub pair_open_externals : List ℕ
  pair_open_externals = afterwards (pair_open_checked file K keys rows wkeys wexternals) (pair_wire_externals pad K wires keys rows) wexternals

-- the call's promise, in the round given, which may be any number and enters by the pads alone: the number and place that it answers, and what
-- the bytes lent for the wires' keys and external values hold afterwards
pub record PairOpenCall (file : List ℕ) (K round : ℕ) (keys rows wkeys₀ wexternals₀ : List ℕ)
    (number place : ℕ) (wkeys wexternals : List ℕ) : Type 0 where
  pub answer : Reports (pair_open_checked file K keys rows wkeys₀ wexternals₀) number place
  pub wire_keys_is : wkeys ≡ pair_open_keys (shake_pad round) file K keys rows wkeys₀ wexternals₀
  pub wire_externals_is : wexternals ≡ pair_open_externals (shake_pad round) file K keys rows wkeys₀ wexternals₀
