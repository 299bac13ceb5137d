-- `zero::Drawn::gather` meets its contract: block by block, one of each party.
-- Assumes nothing.
use Rattle.lists.proofs.Steps.{Level}
use Rattle.lists.specs.Blocks.{part, nth_piece}
use Rattle.zero.proofs.shares.Drawn.gather.Given as goal

abbrev pub invariant-loop-party : goal.invariant-loop-party
invariant-loop-party l = Level l.initial.out 0 l.party l.self.n l.self.k (λ i. part (nth_piece l.self.contributions.now l.self.size i) l.at l.self.k) l.to l.out
