-- `pair_calls::open_lengths` meets its contract: the lengths wanted are the circuit's. Assumes nothing.
use native.Mathlib.Omega.{arith}
use Rattle.session.proofs.Circuits.{inputs-made}
use Rattle.pair_calls.proofs.Shared.{small_product}
use Rattle.pair_calls.proofs.Opens.{lengths_met}
use Rattle.pair_calls.proofs.opened.open_lengths.Goals as goal

pub overflow_mul-circuit : goal.overflow_mul-circuit
overflow_mul-circuit c = omega (arith, small_product {a = c.args.circuit.inputs} {b = c.args.k} {m = 1024} {n = 128} (omega (arith, inputs-made c.requires.held, c.requires.held.room.made)) c.requires.short)

pub returns : goal.returns
returns c = lengths_met c.requires _ _ _ _ c.rows-count.ensures c.lengths_checked.ensures
