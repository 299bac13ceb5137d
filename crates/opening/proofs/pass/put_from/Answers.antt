-- `opening::put_from` meets its contract: what was opened stands at its place. Assumes nothing.
use mathlib.Core.Path.{refl, ◌∙◌}
use Prim.Native.Nat.{◌*◌, ◌≤◌}
use native.Mathlib.Omega.{arith}
use lib.ListN.{length}
use Rattle.opening.proofs.Turns.{place-fits, put_room, put_is}
use Rattle.opening.proofs.pass.put_from.Goals as goal

pub overflow_mul-w : goal.overflow_mul-w
overflow_mul-w c = let h : c.args.turn.wire * (c.args.turn.n * c.args.turn.k) ≤ length c.args.wkeys.now = place-fits (c.args.turn.n * c.args.turn.k) refl c.requires.seated.1.1.keys in
    omega (arith, h, c.well_formed)

pub put_at-requires : goal.put_at-requires
put_at-requires c = put_room refl c.requires.seated.1.1.keys (c.open_wire-e.auto.out ∙ c.requires.seated.1.0.size)

pub returns : goal.returns
returns c = put_is c.args.turn refl (c.open_wire-e.auto.out ∙ c.requires.seated.1.0.size) c.open_wire-e.ensures c.put_at.ensures
