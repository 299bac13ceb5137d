-- How far the pass has come: what the two buffers hold before a turn.
-- Assumes nothing.
use mathlib.Core.Path.{◌≡◌}
use mathlib.Core.List.{List}
use Prim.Native.Nat.{ℕ, ◌*◌, ◌≤◌, ◌<◌}
use lib.ListN.{length, get_or}
use Rattle.words.specs.declared.gate.Wire.{Wire}
use Rattle.circuit.specs.Wires.{modulus_at}
use Rattle.pads.specs.Pad.{shake_pad}
use Rattle.scheme.specs.Contribution.{record_at}
use Rattle.scheme.specs.Draw.{drawn}
use Rattle.scheme.specs.Opening.{Opened, opened, nothing, row_at}
use Rattle.opening.specs.Step.{lower}

module _ (n K party round : ℕ) (wires : List Wire) (contribution externals keys rows : List ℕ) where
  -- wire v, as document 01 opens it
  abbrev pub opened_at : ℕ → Opened
  opened_at v = get_or (opened (shake_pad round) n K party wires (drawn 1 K wires contribution) externals keys rows) v nothing

  -- before wire w: each lower wire fits, and stands in the buffers; the cursors stand at w's record and at its rows
  pub record Reached (w zero from : ℕ) (wkeys wexternals : List ℕ) : Type 0 where
    pub turns : w ≤ length wires
    pub zero_is : zero ≡ record_at K wires w
    pub from_is : from ≡ row_at wires w * (n * K)
    pub keys_size : length wkeys ≡ length wires * (n * K)
    pub externals_size : length wexternals ≡ length wires
    pub wire : (v : ℕ) → v < w → lower (n * K) wkeys wexternals v ≡ opened_at v
    pub below : (v : ℕ) → v < w → get_or wexternals v 0 < modulus_at wires v
