-- `contribution::first_in_contributions` meets its contract: a loop over blocks, one for each party. Assumes nothing.
use Prim.Native.Nat.{◌*◌}
use Rattle.lists.specs.Blocks.{blocks}
use Rattle.circuit.specs.Held.{wires_in}
use Rattle.scheme.specs.Contribution.{contribution_size, contribution_moduli}
use Rattle.contribution.proofs.Runs.{Searched}
use Rattle.contribution.proofs.contributed.first_in_contributions.Given as goal

abbrev pub invariant-loop-party : goal.invariant-loop-party
invariant-loop-party l = Searched l.contributions (blocks l.n (λ j. contribution_moduli l.k (wires_in l.circuit))) l.n (λ j. contribution_size l.k (wires_in l.circuit)) l.party (l.party * l.size)
