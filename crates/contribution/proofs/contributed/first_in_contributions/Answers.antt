-- `contribution::first_in_contributions` meets its contract: a loop over blocks, one for each party. Assumes nothing.
use native.Mathlib.Nat.{zero-mul}
use mathlib.Core.Path.{sym, ◌∙◌, subst}
use Prim.Native.Nat.{ℕ, ◌+◌}
use Rattle.lists.proofs.Sums.{sum_to_const, times-next}
use Rattle.lists.specs.Blocks.{blocks}
use Rattle.circuit.specs.Held.{wires_in}
use Rattle.scheme.specs.Contribution.{contribution_size, contribution_moduli}
use Rattle.scheme.proofs.ByteModuli.{length-contribution_moduli}
use Rattle.contribution.proofs.Runs.{Searched, searched_start, searched-all, searched-done, block_on, block_found}
use Rattle.contribution.proofs.contributed.first_in_contributions.Goals as goal

pub loop-party-init : goal.loop-party-init
loop-party-init c = subst (λ (at : ℕ). Searched c.args.contributions.now (blocks c.args.n (λ j. contribution_moduli c.args.k (wires_in c.args.circuit))) c.args.n (λ j. contribution_size c.args.k (wires_in c.args.circuit)) 0 at) (sym (zero-mul c.contribution_size-size.result)) (searched_start (sum_to_const c.args.n (contribution_size c.args.k (wires_in c.args.circuit)) ∙ sym c.requires.contributions_len))

pub returns-then-found-size : goal.returns-then-found-size
returns-then-found-size c = block_found (λ j. contribution_moduli c.args.k (wires_in c.args.circuit)) (λ j l. length-contribution_moduli c.args.k (wires_in c.args.circuit)) c.loop-party.invariant c.loop-party-test.true c.contribution_size-size.ensures.is c.nth_piece-own.ensures.0 c.first_in_contribution-found.ensures c.if-found-size.true

pub loop-party-preserved : goal.loop-party-preserved
loop-party-preserved c = subst (λ (at : ℕ). Searched c.args.contributions.now (blocks c.args.n (λ j. contribution_moduli c.args.k (wires_in c.args.circuit))) c.args.n (λ j. contribution_size c.args.k (wires_in c.args.circuit)) (c.loop-party.party + 1) at) (sym (times-next c.loop-party.party c.contribution_size-size.result)) (block_on (λ j. contribution_moduli c.args.k (wires_in c.args.circuit)) (λ j l. length-contribution_moduli c.args.k (wires_in c.args.circuit)) c.loop-party.invariant c.loop-party-test.true c.contribution_size-size.ensures.is c.nth_piece-own.ensures.0 c.first_in_contribution-found.ensures c.if-found-size.false)

pub returns : goal.returns
returns c = sym (searched-all c.loop-party.invariant c.loop-party-test.false) ∙ searched-done c.loop-party.invariant c.loop-party-test.false
