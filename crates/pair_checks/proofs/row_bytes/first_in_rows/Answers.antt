-- `pair_checks::first_in_rows` meets its contract: a run for each wire. Assumes nothing.
use mathlib.Core.Path.{◌≡◌, sym, ◌∙◌, subst}
use Prim.Native.Nat.{ℕ, ◌*◌}
use lib.ListN.{length, get_or}
use Rattle.std.proofs.Common.{rules}
use Rattle.lists.specs.Blocks.{runs, sum_to}
use Rattle.circuit.specs.Wires.{modulus_at}
use Rattle.circuit.specs.Held.{wires_in}
use Rattle.pair.specs.Count.{pair_rows_of}
use Rattle.contribution.specs.Large.{first_large}
use Rattle.contribution.proofs.Wired.{sum_to_times_right, made_are}
use Rattle.pair_checks.proofs.Counting.{rows_run}
use Rattle.pair_checks.proofs.row_bytes.first_in_rows.Goals as goal

pub first_in_runs-requires-clause-runs_are : goal.first_in_runs-requires-clause-runs_are
first_in_runs-requires-clause-runs_are c = (
  λ w. pair_rows_of (wires_in c.args.circuit) w * c.args.width,
  modulus_at (wires_in c.args.circuit),
  record {
    each = λ w run h p. rows_run c.args.circuit c.requires.room.0 h run (search rules) c.moduli-table.ensures c.args.width (search rules);
    long = subst (λ (n : ℕ). sum_to n (λ w. pair_rows_of (wires_in c.args.circuit) w * c.args.width) ≡ length c.args.rows.now) (made_are c.args.circuit c.requires.room.0) (sum_to_times_right (length (wires_in c.args.circuit)) c.args.width (pair_rows_of (wires_in c.args.circuit)) ∙ sym c.requires.rows_len);
  },
)

pub returns : goal.returns
returns c = subst (λ (n : ℕ). c.first_in_runs.result ≡ first_large c.args.rows.now (λ i. get_or (runs n (λ w. pair_rows_of (wires_in c.args.circuit) w * c.args.width) (modulus_at (wires_in c.args.circuit))) i 0)) (sym (made_are c.args.circuit c.requires.room.0)) (c.first_in_runs.ensures (λ w. pair_rows_of (wires_in c.args.circuit) w * c.args.width) (modulus_at (wires_in c.args.circuit)) record {
  each = λ w run h p. rows_run c.args.circuit c.requires.room.0 h run (search rules) c.moduli-table.ensures c.args.width (search rules);
  long = subst (λ (n : ℕ). sum_to n (λ w. pair_rows_of (wires_in c.args.circuit) w * c.args.width) ≡ length c.args.rows.now) (made_are c.args.circuit c.requires.room.0) (sum_to_times_right (length (wires_in c.args.circuit)) c.args.width (pair_rows_of (wires_in c.args.circuit)) ∙ sym c.requires.rows_len);
})
