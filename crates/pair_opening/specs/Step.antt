-- One turn of the pass: the definition's `open_by` at what the code has of the wire at hand (its own rows, its modulus) and of the wires opened below it, and what it puts
-- into the two buffers. Only inner contracts cite this; that of the call cites `pair_wire_keys` and `pair_wire_externals`.
-- Assumes nothing.
use Rattle.std.specs.Prelude.{◌≡◌, List, ℕ, ◌+◌, ◌*◌, ◌≤◌, ◌<◌, length, set}
use Rattle.lists.specs.Blocks.{nth_piece, written}
use Rattle.words.specs.declared.gate.Gate.{Gate}
use Rattle.words.specs.declared.gate.Gate.TheVariants.{Input, Add, Scale, Multiply, Project, Select}
use Rattle.pads.specs.Pad.{shake_pad}
use Rattle.pair.specs.Key.{external_of}
use Rattle.pair.specs.Half.{open_half}
use Rattle.pair.specs.Gate.{open_product, open_by}
use Rattle.pair_opening.specs.declared.turn.Turn.{Turn}

-- the modulus of the wire that a projection is of, 0 where there is no projection
abbrev pub over_by : Gate → (ℕ → ℕ) → ℕ
over_by (Input g) modulus_of = 0
over_by (Add g) modulus_of = 0
over_by (Scale g) modulus_of = 0
over_by (Multiply g) modulus_of = 0
over_by (Project g) modulus_of = modulus_of g.a
over_by (Select g) modulus_of = 0

-- the key of wire a in the buffer of keys
abbrev pub key_in : Turn → List ℕ → ℕ → List ℕ
key_in turn wkeys a = nth_piece wkeys turn.k a

-- a projection, from the wire's own rows and a's key
abbrev pub table_at : Turn → List ℕ → List ℕ → List ℕ
table_at turn rows a = open_half (shake_pad turn.round) turn.k turn.wire 0 turn.modulus turn.over rows a

-- a product, from the wire's own rows and the keys of a and b: it looks up nothing else
abbrev pub product_at : Turn → List ℕ → List ℕ → List ℕ → List ℕ
product_at turn rows a b =
    open_product (shake_pad turn.round) turn.k turn.wire turn.modulus rows a b

-- any gate, from the inputs' keys, the wire's own rows and the buffer of keys
unfoldable pub open_at : Turn → List ℕ → List ℕ → List ℕ → Gate → List ℕ
open_at turn keys rows wkeys gate =
    open_by (shake_pad turn.round) turn.k turn.wire turn.modulus (λ _. turn.over) rows (nth_piece keys turn.k turn.wire) (key_in turn wkeys) gate

-- the two buffers have a place for the wire at hand
pub record Room (turn : Turn) (wkeys wexternals : List ℕ) : Type 0 where
  pub keys : turn.wire * turn.k + turn.k ≤ length wkeys
  pub external : turn.wire < length wexternals

-- key and external value stand at the wire's place
pub record Stored (turn : Turn) (key wkeys₀ wexternals₀ wkeys wexternals : List ℕ) : Type 0 where
  pub size : length key ≡ turn.k
  pub keys : wkeys ≡ written wkeys₀ (turn.wire * turn.k) key
  pub externals : wexternals ≡ set wexternals₀ turn.wire (external_of key)
