-- `lists::piece` meets its contract.
-- Assumes nothing.
use mathlib.Core.Path.{refl, ap, ◌∙◌}
use Prim.Native.Nat.{◌+◌}
use lib.ListN.{length}
use Rattle.lists.proofs.Parts.{part_range, length_part}
use Rattle.lists.proofs.piece.Goals as goal

pub returns : goal.returns
returns c = let s = c.args.s.now in
    let at = c.args.at in
    let n = c.args.n in
    let e = part_range s at (at + n) n refl in
    (e, ap length e ∙ length_part s at n c.requires)
