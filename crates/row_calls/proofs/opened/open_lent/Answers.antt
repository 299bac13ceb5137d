-- `row_calls::open_lent` meets its contract: a wrong length, or what the checks of the bytes answer. Assumes nothing.
use mathlib.Core.Path.{◌∙◌}
use Rattle.checks.proofs.Answers.{stage_passed, stage_refused, passed_on}
use native.Mathlib.Omega.{arith}
use Prim.Native.Nat.{◌*◌}
use Rattle.session.proofs.Circuits.{inputs-made}
use Rattle.party_calls.proofs.KeyPlaces.{small_product}
use Rattle.row_calls.proofs.Opens.{lengths_met, open_sizes}
use Rattle.row_calls.proofs.opened.open_lent.Goals as goal

pub overflow_mul-inputs : goal.overflow_mul-inputs
overflow_mul-inputs c =
    omega (
      arith,
      small_product {a = c.args.circuit.inputs} {b = c.args.n * c.args.k} {m = 1024} {n = 1024} (omega (arith, inputs-made c.requires.0, c.requires.0.room.made))
          (omega (arith, small_product {a = c.args.n} {b = c.args.k} {m = 8} {n = 128} c.requires.1.0 c.requires.1.1)),
    )

pub bytes_checked-requires : goal.bytes_checked-requires
bytes_checked-requires c = open_sizes c.requires.0 _ _ _ _ _ _ c.args.wkeys c.args.wexternals c.contribution_size.ensures c.rows-count.ensures c.lengths_checked.ensures c.requires.1.0 c.requires.1.1 c.in_ok-lengths_checked.was

pub returns-in_err-lengths_checked : goal.returns-in_err-lengths_checked
returns-in_err-lengths_checked c =
    passed_on c.from_residual.ensures.1
    ∙ stage_refused (lengths_met c.requires.0 _ _ _ _ _ _ c.args.wkeys c.args.wexternals c.contribution_size.ensures c.rows-count.ensures c.lengths_checked.ensures) _ c.in_err-lengths_checked.was

pub returns : goal.returns
returns c =
    stage_passed (lengths_met c.requires.0 _ _ _ _ _ _ c.args.wkeys c.args.wexternals c.contribution_size.ensures c.rows-count.ensures c.lengths_checked.ensures) c.in_ok-lengths_checked.was
    c.bytes_checked.ensures
