-- How far the pass has come: what the two buffers hold before a turn.
-- Assumes nothing.
use mathlib.Core.Path.{◌≡◌}
use mathlib.Core.List.{List}
use Prim.Native.Nat.{ℕ, ◌*◌, ◌≤◌, ◌<◌}
use lib.ListN.{length, get_or}
use Rattle.lists.specs.Blocks.{sum_to, nth_piece}
use Rattle.words.specs.declared.gate.Wire.{Wire}
use Rattle.pads.specs.Pad.{shake_pad}
use Rattle.pair.specs.Key.{external_of}
use Rattle.pair.specs.Count.{pair_rows_of}
use Rattle.pair.specs.Opening.{opened_key}

-- before wire w: each lower wire's opened key and its external value stand in the buffers; the cursor stands at w's rows
pub record Reached (K round : ℕ) (wires : List Wire) (keys rows : List ℕ) (w from : ℕ) (wkeys wexternals : List ℕ) : Type 0 where
  pub turns : w ≤ length wires
  pub from_is : from ≡ sum_to w (pair_rows_of wires) * K
  pub keys_size : length wkeys ≡ length wires * K
  pub externals_size : length wexternals ≡ length wires
  pub key : (v : ℕ) → v < w → nth_piece wkeys K v ≡ opened_key (shake_pad round) K wires keys rows v
  pub external : (v : ℕ) → v < w → get_or wexternals v 0 ≡ external_of (opened_key (shake_pad round) K wires keys rows v)
