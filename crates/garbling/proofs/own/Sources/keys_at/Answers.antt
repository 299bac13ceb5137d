use mathlib.Core.Path.{sym}
use native.Mathlib.Omega.{arith}
use Rattle.contribution.proofs.Sizes.{vector-fits, scratch_cut}
use Rattle.zero.specs.Turn.{keys_at}
use Rattle.garbling.proofs.Fronts.{front-made}
use Rattle.garbling.proofs.own.Sources.keys_at.Goals as goal

pub slice_bounds-keys-end : goal.slice_bounds-keys-end
slice_bounds-keys-end c = omega (arith, vector-fits c.requires.0.sizes, c.scratch-keys.ensures)

pub slice_bounds-gather-end : goal.slice_bounds-gather-end
slice_bounds-gather-end c = sym (scratch_cut _ c.requires.0.sizes c.scratch-keys.ensures)

pub gather-requires-clause-out_len : goal.gather-requires-clause-out_len
gather-requires-clause-out_len c = scratch_cut _ c.requires.0.sizes c.scratch-keys.ensures

pub returns : goal.returns
unfolding keys_at
returns c = front-made c.args.turn c.requires.0.sizes _ c.scratch-keys.ensures c.gather.auto.out c.gather.ensures
