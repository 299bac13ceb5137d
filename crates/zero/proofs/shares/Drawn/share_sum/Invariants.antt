-- `zero::Drawn::share_sum` meets its contract: a sum with one share more each turn.
-- Assumes nothing.
use lib.ListN.{get_or}
use Rattle.lists.specs.Blocks.{nth_piece}
use Rattle.counts.proofs.Counting.{Summed}
use Rattle.zero.proofs.shares.Drawn.share_sum.Given as goal

abbrev pub invariant-loop-party : goal.invariant-loop-party
invariant-loop-party l = Summed 255 (λ i. get_or (nth_piece l.self.contributions.now l.self.size i) l.at 0) l.self.n l.party l.total
