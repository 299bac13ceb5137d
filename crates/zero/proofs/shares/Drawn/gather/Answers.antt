-- `zero::Drawn::gather` meets its contract: block by block, one of each party.
-- Assumes nothing.
use mathlib.Core.List.{List}
use mathlib.Core.Path.{refl, ap, ◌∙◌}
use Prim.Native.Nat.{ℕ}
use native.Mathlib.Omega.{arith}
use Rattle.lists.proofs.Steps.{level_start, level_whole, steps_fits, steps_put}
use Rattle.lists.specs.Blocks.{part}
use Rattle.zero.proofs.shares.Drawn.gather.Goals as goal

pub loop-party-init : goal.loop-party-init
loop-party-init c = level_start (omega (arith, c.requires.out_len))

pub put_at-requires : goal.put_at-requires
put_at-requires c = omega (arith, steps_fits c.loop-party.invariant c.loop-party-test.true, c.piece.ensures.1)

pub loop-party-preserved : goal.loop-party-preserved
loop-party-preserved c = steps_put c.loop-party.invariant c.loop-party-test.true refl c.piece.ensures.1 c.put_at.ensures (c.piece.ensures.0 ∙ ap (λ (l : List ℕ). part l c.args.at c.args.self.k) c.nth_piece-own.ensures.0)

pub returns : goal.returns
returns c = level_whole c.loop-party.invariant c.loop-party-test.false c.requires.out_len
