-- `zero::Drawn::share_sum` meets its contract: a sum with one share more each turn.
-- Assumes nothing.
use mathlib.Core.List.{List}
use mathlib.Core.Path.{◌≡◌, ap, ap₂, ◌∙◌}
use Prim.Native.Nat.{ℕ, ◌%◌}
use native.Mathlib.Omega.{arith}
use lib.ListN.{get_or}
use Rattle.lists.specs.Blocks.{sum_to, nth_piece}
use Rattle.counts.proofs.Counting.{summed_start, summed-step}
use Rattle.zero.proofs.shares.Drawn.share_sum.Goals as goal

pub loop-party-init : goal.loop-party-init
loop-party-init c = summed_start

pub loop-party-preserved : goal.loop-party-preserved
loop-party-preserved c = summed-step c.loop-party.invariant c.loop-party-test.true (record { is = c.from-total.ensures; most = omega (arith, c.from-total.ensures) }) (ap (λ (l : List ℕ). get_or l c.args.at 0) c.nth_piece-bytes.ensures.0)

pub returns : goal.returns
returns c = let all : c.loop-party.party ≡ c.args.self.n = omega (arith, c.loop-party.invariant.turns, c.loop-party-test.false) in
    ap₂ ◌%◌ (c.loop-party.invariant.is ∙ ap (λ (m : ℕ). sum_to m (λ i. get_or (nth_piece c.args.self.contributions.now c.args.self.size i) c.args.at 0)) all) c.from.ensures
