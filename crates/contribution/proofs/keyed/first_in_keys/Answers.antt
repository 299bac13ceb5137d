-- `contribution::first_in_keys` meets its contract: a run for each input. Assumes nothing.
use native.Mathlib.Omega.{arith}
use mathlib.Core.Path.{◌≡◌, sym, ap, ◌∙◌, subst}
use Prim.Native.Nat.{ℕ, ◌*◌}
use lib.ListN.{get_or}
use Rattle.std.proofs.Common.{rules}
use Rattle.lists.specs.Blocks.{runs}
use Rattle.lists.proofs.Sums.{sum_to_const}
use Rattle.session.proofs.Circuits.{inputs-made}
use Rattle.circuit.specs.Wires.{modulus_at}
use Rattle.circuit.specs.Held.{wires_in}
use Rattle.contribution.specs.Large.{first_large}
use Rattle.contribution.proofs.Wired.{modulus_is}
use Rattle.contribution.proofs.keyed.first_in_keys.Goals as goal

pub first_in_runs-requires-clause-callable : goal.first_in_runs-requires-clause-callable
first_in_runs-requires-clause-callable c = λ i h. (λ κs p x y z. omega (arith, inputs-made c.requires.held, c.requires.held.room.made), λ κs p x y z. omega (arith, inputs-made c.requires.held, c.requires.held.room.made))

pub first_in_runs-requires-clause-runs_are : goal.first_in_runs-requires-clause-runs_are
first_in_runs-requires-clause-runs_are c = (
  λ w. c.args.width,
  modulus_at (wires_in c.args.circuit),
  record {
    each = λ w run h p. (search rules, (let e : run.modulus ≡ modulus_at c.args.circuit.wires w = search rules in e) ∙ modulus_is c.args.circuit c.requires.held.room (omega (arith, inputs-made c.requires.held)));
    long = sum_to_const c.args.circuit.inputs c.args.width ∙ ap (λ (n : ℕ). n * c.args.width) c.requires.held.inputs ∙ sym c.requires.keys_len;
  },
)

pub returns : goal.returns
returns c = subst (λ (n : ℕ). c.first_in_runs.result ≡ first_large c.args.keys.now (λ i. get_or (runs n (λ w. c.args.width) (modulus_at (wires_in c.args.circuit))) i 0)) c.requires.held.inputs (c.first_in_runs.ensures (λ w. c.args.width) (modulus_at (wires_in c.args.circuit)) record {
  each = λ w run h p. (search rules, (let e : run.modulus ≡ modulus_at c.args.circuit.wires w = search rules in e) ∙ modulus_is c.args.circuit c.requires.held.room (omega (arith, inputs-made c.requires.held)));
  long = sum_to_const c.args.circuit.inputs c.args.width ∙ ap (λ (n : ℕ). n * c.args.width) c.requires.held.inputs ∙ sym c.requires.keys_len;
})
