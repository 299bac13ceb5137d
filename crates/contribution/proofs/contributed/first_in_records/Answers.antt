-- `contribution::first_in_records` meets its contract: a run for each wire. Assumes nothing.
use mathlib.Core.Path.{◌≡◌, sym, ◌∙◌, subst}
use Prim.Native.Nat.{ℕ, ◌+◌, ◌*◌}
use lib.ListN.{length, get_or}
use Rattle.std.proofs.Common.{rules}
use Rattle.lists.specs.Blocks.{runs, sum_to}
use Rattle.lists.proofs.Sums.{sum_to_times}
use Rattle.circuit.specs.Wires.{modulus_at}
use Rattle.circuit.specs.Held.{wires_in}
use Rattle.counts.specs.Counts.{record_keys_of}
use Rattle.contribution.specs.Large.{first_large}
use Rattle.contribution.proofs.Wired.{made_are, record_run}
use Rattle.contribution.proofs.contributed.first_in_records.Goals as goal

pub first_in_runs-requires-clause-runs_are : goal.first_in_runs-requires-clause-runs_are
first_in_runs-requires-clause-runs_are c = (
  λ w. (c.args.k + 1) * record_keys_of (wires_in c.args.circuit) w,
  modulus_at (wires_in c.args.circuit),
  record {
    each = λ w run h p. record_run c.args.circuit c.requires.room.0 h run (search rules) c.args.k (search rules);
    long = subst (λ (n : ℕ). sum_to n (λ w. (c.args.k + 1) * record_keys_of (wires_in c.args.circuit) w) ≡ length c.args.bytes.now) (made_are c.args.circuit c.requires.room.0) (sum_to_times (length (wires_in c.args.circuit)) (c.args.k + 1) (record_keys_of (wires_in c.args.circuit)) ∙ sym c.requires.bytes_len);
  },
)

pub returns : goal.returns
returns c = subst (λ (n : ℕ). c.first_in_runs.result ≡ first_large c.args.bytes.now (λ i. get_or (runs n (λ w. (c.args.k + 1) * record_keys_of (wires_in c.args.circuit) w) (modulus_at (wires_in c.args.circuit))) i 0)) (sym (made_are c.args.circuit c.requires.room.0)) (c.first_in_runs.ensures (λ w. (c.args.k + 1) * record_keys_of (wires_in c.args.circuit) w) (modulus_at (wires_in c.args.circuit)) record {
  each = λ w run h p. record_run c.args.circuit c.requires.room.0 h run (search rules) c.args.k (search rules);
  long = subst (λ (n : ℕ). sum_to n (λ w. (c.args.k + 1) * record_keys_of (wires_in c.args.circuit) w) ≡ length c.args.bytes.now) (made_are c.args.circuit c.requires.room.0) (sum_to_times (length (wires_in c.args.circuit)) (c.args.k + 1) (record_keys_of (wires_in c.args.circuit)) ∙ sym c.requires.bytes_len);
})
