-- `party_calls::put_externals` meets its contract: a loop that fills the buffer input by input. Assumes nothing.
use mathlib.Core.Path.{refl}
use native.Mathlib.Omega.{arith}
use Rattle.party_calls.proofs.OwnExternals.{own_start, own-step, own-done}
use Rattle.party_calls.proofs.masking.put_externals.Goals as goal

pub loop-i-init : goal.loop-i-init
loop-i-init c = own_start c.args.values.now c.args.masks.now c.own_moduli-table.result (omega (arith, c.requires.size, c.requires.lent.values_size))

pub loop-i-preserved : goal.loop-i-preserved
loop-i-preserved c = own-step c.args.values.now c.args.masks.now c.own_moduli-table.result c.loop-i.invariant c.loop-i-test.true c.add.ensures

pub returns : goal.returns
returns c = own-done c.requires c.own_moduli-table.ensures c.loop-i.invariant refl c.loop-i-test.false
