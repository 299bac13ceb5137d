-- `rows::gates::choice_rows` meets its contract: the chooser's rows, then the correctors'.
-- Assumes nothing.
use mathlib.Core.Path.{◌∙◌}
use Prim.Native.Nat.{◌*◌}
use native.Mathlib.Omega.{arith}
use Rattle.rows.proofs.Sizes.{room_as, both_parts}
use Rattle.rows.proofs.Messages.{choice_is}
use Rattle.rows.proofs.gates.choice_rows.Goals as goal

pub returns : goal.returns
returns c = let made = c.args.made in
    both_parts 2 (2 * made.modulus) (2 * (made.n * made.k)) (room_as c.requires.room_for.0 (omega arith)) (omega arith) c.chooser.new.out c.chooser.auto.out c.chooser.ensures c.correctors.auto.out c.correctors.ensures
    ∙ choice_is _ _ _ _ _ _ _ _ c.less-chosen.ensures.1 c.less-rest0.ensures.1 c.less-rest1.ensures.1
