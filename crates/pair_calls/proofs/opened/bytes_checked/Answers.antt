-- `pair_calls::bytes_checked` meets its contract: the checks in their order. Assumes nothing.
use mathlib.Core.Path.{◌∙◌}
use Rattle.checks.proofs.Answers.{stage_passed, stage_refused, passed_on}
use mathlib.Core.Path.{sym, ap}
use Prim.Native.Nat.{ℕ, ◌*◌}
use native.Mathlib.Nat.{one-mul}
use native.Mathlib.Omega.{arith}
use Rattle.circuit.specs.Wires.{inputs_in}
use Rattle.circuit.specs.Held.{wires_in}
use Rattle.pair_calls.proofs.opened.bytes_checked.Goals as goal

pub keys_checked-requires : goal.keys_checked-requires
keys_checked-requires c = record { held = (c.requires.ranged.held, (omega arith, c.requires.ranged.short)); keys_len = c.requires.keys_length ∙ ap (λ (m : ℕ). inputs_in (wires_in c.args.circuit) * m) (sym (one-mul c.args.k)) }

pub rows_checked-requires : goal.rows_checked-requires
rows_checked-requires c = record { room = (c.requires.ranged.held.room, c.requires.ranged.short); rows_len = c.requires.rows_length }

pub returns-in_err-keys_checked : goal.returns-in_err-keys_checked
returns-in_err-keys_checked c = passed_on c.from_residual.ensures.1 ∙ stage_refused c.keys_checked.ensures _ c.in_err-keys_checked.was

pub returns : goal.returns
returns c = stage_passed c.keys_checked.ensures c.in_ok-keys_checked.was c.rows_checked.ensures
