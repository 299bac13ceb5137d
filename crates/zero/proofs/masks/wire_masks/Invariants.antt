-- `zero::masks::wire_masks` meets its contract: element by element, a wire each, with the cursor over the records.
-- Assumes nothing.
use mathlib.Core.Path.{◌≡◌}
use lib.ListN.{length, replicate}
use Rattle.lists.proofs.Filled.{Filled}
use Rattle.circuit.specs.Held.{wires_in}
use Rattle.scheme.specs.Contribution.{record_at}
use Rattle.scheme.specs.Zero.{masks_to}
use Rattle.zero.specs.Ready.{drawn_in}
use Rattle.zero.proofs.masks.wire_masks.Given as goal

abbrev pub invariant-loop-w : goal.invariant-loop-w
invariant-loop-w l = (l.at ≡ record_at l.drawn.k (wires_in l.fn.circuit) l.w) × (length l.masks ≡ 1024) × (l.initial.masks ≡ replicate 1024 0) × Filled l.initial.masks l.w l.fn.circuit.made (masks_to (wires_in l.fn.circuit) (drawn_in l.fn.circuit l.drawn.n l.drawn.k l.drawn.contributions.now) l.fn.circuit.made) l.masks
