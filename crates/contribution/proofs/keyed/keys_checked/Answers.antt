-- `contribution::keys_checked` meets its contract: the first that was found is named. Assumes nothing.
use native.Mathlib.Omega.{arith}
use Rattle.circuit.specs.Held.{wires_in}
use Rattle.contribution.proofs.Sizes.{times-most}
use Rattle.contribution.proofs.Large.{keys_met}
use Rattle.contribution.proofs.keyed.keys_checked.Goals as goal

pub overflow_mul-width : goal.overflow_mul-width
overflow_mul-width c = omega (arith, times-most c.args.n c.args.k 8 128 c.requires.held.1.0 c.requires.held.1.1)

pub returns : goal.returns
returns c = keys_met c.args.n c.args.k (wires_in c.args.circuit) c.args.keys.now c.first_in_keys-found.ensures c.named.ensures
