-- Order 10: "The engine treats a modulus-2 wire times itself as that wire: no rows, no record, keys and external values copied." Rows and record by the
-- counts; zero keys and masks of all contributions that have their length and pass 16; opened keys and external bytes over the call's promise, of which
-- nothing else is known: it may have been lent any rows that it accepts.
-- Assumes nothing.
use Rattle.std.specs.Prelude.{◌≡◌, List, ℕ, ◌*◌, ◌<◌, length, get_or}
use Rattle.lists.specs.Blocks.{nth_piece}
use Rattle.words.specs.declared.gate.Gate.TheVariants.{Multiply}
use Rattle.words.specs.declared.gate.Wire.{Wire}
use Rattle.circuit.specs.Wires.{wire_at, modulus_at}
use Rattle.circuit.specs.File.{read_file}
use Rattle.counts.specs.Counts.{rows_of, record_keys_of}
use Rattle.scheme.specs.Contribution.{contribution_size}
use Rattle.scheme.specs.Draw.{Draw, drawn}
use Rattle.scheme.specs.Zero.{zero_key, mask}
use Rattle.scheme.specs.Bytes.{contributions_checked}
use Rattle.calls.specs.Open.{OpenCall}
use Rattle.checks.specs.Answer.{accepts}

module _ (file : List ℕ) where
  abbrev wires : List Wire
  wires = (read_file file).wires

  -- wire w of an accepted circuit is the bit a times itself
  pub record CopyOf (w a : ℕ) : Type 0 where
    pub accepted : (read_file file).answer ≡ accepts
    pub made : w < length wires
    pub gate : (wire_at wires w).gate ≡ Multiply (record { a = a; b = a })
    pub bit : modulus_at wires w ≡ 2

  -- "no rows, no record"
  pub record Free (w : ℕ) : Type 0 where
    pub rows : rows_of wires w ≡ 0
    pub record_keys : record_keys_of wires w ≡ 0

  abbrev pub CopiesAreFree : Type 0
  CopiesAreFree = (w a : ℕ) → CopyOf w a → Free w

  -- its zero keys and its mask are a's
  pub record SameDrawn (draw : Draw) (w a : ℕ) : Type 0 where
    pub key : zero_key wires draw w ≡ zero_key wires draw a
    pub mask : mask wires draw w ≡ mask wires draw a

  abbrev pub CopiesAreDrawn : Type 0
  CopiesAreDrawn =
      (n K : ℕ) (contributions : List ℕ) → length contributions ≡ n * contribution_size K wires → contributions_checked n K wires contributions ≡ accepts
      → (w a : ℕ) → CopyOf w a → SameDrawn (drawn n K wires contributions) w a

  -- an accepted opening: what the call was given, what it left, and that it met its promise and answered 0
  pub record Opening : Type 0 where
    pub n : ℕ
    pub K : ℕ
    pub party : ℕ
    pub round : ℕ
    pub contribution : List ℕ
    pub externals : List ℕ
    pub keys : List ℕ
    pub rows : List ℕ
    pub wkeys₀ : List ℕ
    pub wexternals₀ : List ℕ
    pub place : ℕ
    pub wkeys : List ℕ
    pub wexternals : List ℕ
    pub accepted : OpenCall file n K party round contribution externals keys rows wkeys₀ wexternals₀ 0 place wkeys wexternals

  -- "keys and external values copied": all parties' keys, n·K bytes, and the external byte that it left for wire w are those that it left for wire a
  pub record SameOpened (opening : Opening) (w a : ℕ) : Type 0 where
    pub keys : nth_piece opening.wkeys (opening.n * opening.K) w ≡ nth_piece opening.wkeys (opening.n * opening.K) a
    pub external : get_or opening.wexternals w 0 ≡ get_or opening.wexternals a 0

  abbrev pub CopiesAreOpened : Type 0
  CopiesAreOpened = (opening : Opening) (w a : ℕ) → CopyOf w a → SameOpened opening w a
