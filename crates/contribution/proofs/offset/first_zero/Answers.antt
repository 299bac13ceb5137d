-- `contribution::first_zero` meets its contract: a loop that looks for the first modulus. Assumes nothing.
use mathlib.Core.Path.{sym, ap, ◌∙◌}
use Prim.Native.Nat.{ℕ, ◌*◌}
use Rattle.lists.proofs.Search.{looking_found}
use Rattle.circuit.specs.Held.{wires_in}
use Rattle.contribution.proofs.Offsets.{marked_is, marked_fits, looking_whole, zero_same, zero-found}
use Rattle.contribution.proofs.offset.first_zero.Goals as goal

pub zero_marked-requires : goal.zero_marked-requires
zero_marked-requires c = (c.requires.contributions_len ∙ ap (λ (s : ℕ). c.args.n * s) (sym c.contribution_size-size.ensures.is), λ m. marked_fits c.args.n c.args.k (wires_in c.args.circuit) c.args.contributions.now c.marks-marks.ensures c.ranks-ranks.ensures c.contribution_size-size.ensures c.loop-p.p c.loop-p-test.true c.from.ensures m)

pub returns-then-zero_marked : goal.returns-then-zero_marked
returns-then-zero_marked c = looking_found (zero-found c.args.n c.args.k (wires_in c.args.circuit) c.args.contributions.now c.marks-marks.ensures c.ranks-ranks.ensures c.contribution_size-size.ensures c.loop-p.invariant) c.loop-p-test.true (sym (zero_same c.args.n c.args.k (wires_in c.args.circuit) c.args.contributions.now c.marks-marks.ensures c.ranks-ranks.ensures c.contribution_size-size.ensures c.loop-p.p c.loop-p-test.true) ∙ marked_is c.args.n c.args.k c.marks-marks.result c.ranks-ranks.result c.contribution_size-size.result c.args.contributions.now c.loop-p.p c.from.ensures c.zero_marked.ensures ∙ c.if-zero_marked.true)

pub returns : goal.returns
returns c = looking_whole (zero-found c.args.n c.args.k (wires_in c.args.circuit) c.args.contributions.now c.marks-marks.ensures c.ranks-ranks.ensures c.contribution_size-size.ensures c.loop-p.invariant) c.loop-p-test.false
