-- `zero::zero::zero_keys` meets its contract: block by block, a wire each, with the cursor over the records.
-- Assumes nothing.
use mathlib.Core.Path.{refl}
use native.Mathlib.Omega.{arith}
use Rattle.lists.proofs.Steps.{steps_fits}
use Rattle.contribution.proofs.Sizes.{vector-fits}
use Rattle.session.proofs.Circuits.{made-is}
use Rattle.zero.proofs.Turns.{record-fits, next-record, keys_start, keys_asked, keys_step, keys-done}
use Rattle.zero.proofs.zero.zero_keys.Goals as goal

pub loop-wire-init : goal.loop-wire-init
loop-wire-init c = (c.first_record-at.ensures, keys_start c.requires.contributed c.requires.keys_len)

pub put_wire-requires-clause-keys_asked : goal.put_wire-requires-clause-keys_asked
put_wire-requires-clause-keys_asked c = keys_asked c.requires.contributed (omega (arith, made-is c.requires.contributed.held)) c.loop-wire.invariant.0 c.loop-wire.invariant.1

pub put_wire-requires-clause-k_bound : goal.put_wire-requires-clause-k_bound
put_wire-requires-clause-k_bound c = (vector-fits c.requires.contributed.sizes, steps_fits c.loop-wire.invariant.1 (omega (arith, made-is c.requires.contributed.held)))

pub overflow_add-at : goal.overflow_add-at
overflow_add-at c = omega (arith, record-fits c.requires.contributed (omega (arith, made-is c.requires.contributed.held)) c.loop-wire.invariant.0 c.record_size-at.ensures, c.ranges.drawn.0)

pub overflow_add-to : goal.overflow_add-to
overflow_add-to c = omega (arith, steps_fits c.loop-wire.invariant.1 (omega (arith, made-is c.requires.contributed.held)))

pub loop-wire-preserved : goal.loop-wire-preserved
loop-wire-preserved c = (next-record c.requires.contributed (omega (arith, made-is c.requires.contributed.held)) c.loop-wire.invariant.0 c.record_size-at.ensures, keys_step c.requires.contributed (omega (arith, made-is c.requires.contributed.held)) c.loop-wire.invariant.0 c.loop-wire.invariant.1 refl c.put_wire.ensures)

pub returns : goal.returns
returns c = keys-done c.requires.contributed c.loop-wire.invariant.1 (omega (arith, made-is c.requires.contributed.held)) c.requires.keys_len
