-- What one turn puts into the two buffers, and what they hold when the pass ends. Only inner contracts cite this; that of the call cites `Given`.
-- Assumes nothing.
use Rattle.std.specs.Prelude.{◌≡◌, not, List, ℕ, ◌+◌, ◌*◌, ◌≤◌, ◌<◌, length, get_or, set}
use Rattle.lists.specs.Blocks.{written}
use Rattle.lists.specs.First.{first}
use Rattle.words.specs.declared.gate.Wire.{Wire}
use Rattle.pads.specs.Pad.{shake_pad}
use Rattle.scheme.specs.Draw.{drawn}
use Rattle.scheme.specs.Opening.{Opened, opened, wire_keys, wire_externals, nothing}
use Rattle.opening.specs.declared.turn.Turn.{Turn}
use Rattle.opening.specs.Step.{Made}

-- the two buffers have a place for the wire at hand
pub record Room (turn : Turn) (wkeys wexternals : List ℕ) : Type 0 where
  pub keys : turn.wire * (turn.n * turn.k) + turn.n * turn.k ≤ length wkeys
  pub external : turn.wire < length wexternals

-- one turn: keys and external value stand at the wire's place
pub record Stored (turn : Turn) (wire : Opened) (wkeys₀ wexternals₀ : List ℕ) (r : ℕ) (wkeys wexternals : List ℕ) : Type 0 where
  pub out : List ℕ
  pub size : length out ≡ turn.n * turn.k
  pub made : Made turn wire out r
  pub keys : wkeys ≡ written wkeys₀ (turn.wire * (turn.n * turn.k)) out
  pub externals : wexternals ≡ set wexternals₀ turn.wire r

-- the end: the first wire on which no multiplier fits; where there is none, all wires stand in the buffers
pub record Swept (n K party round : ℕ) (wires : List Wire) (contribution externals keys rows : List ℕ) (r : ℕ) (wkeys wexternals : List ℕ) : Type 0 where
  pub found : r ≡ first (length wires) (λ w. not (get_or (opened (shake_pad round) n K party wires (drawn 1 K wires contribution) externals keys rows) w nothing).fits)
  pub keys_size : length wkeys ≡ length wires * (n * K)
  pub externals_size : length wexternals ≡ length wires
  pub all_keys : length wires ≤ r → wkeys ≡ wire_keys (shake_pad round) n K party wires (drawn 1 K wires contribution) externals keys rows
  pub all_externals : length wires ≤ r → wexternals ≡ wire_externals (shake_pad round) n K party wires (drawn 1 K wires contribution) externals keys rows
