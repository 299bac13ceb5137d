-- `pads::input::pad_sponge` meets its contract: the seven fields are the pad input.
-- Assumes nothing.
use mathlib.Core.Path.{◌∙◌}
use Rattle.pads.proofs.Taken.{little_endian, takes_input}
use Rattle.pads.specs.Pad.{rowpad}
use Rattle.pads.specs.Binding.{under_of}
use Rattle.pads.proofs.input.pad_sponge.Goals as goal

pub returns : goal.returns
unfolding rowpad
returns c =
    let a = c.args in
    takes_input a.bound.round (under_of a.bound) a.receiver a.key.now c.to_le_bytes-rounds.result c.to_le_bytes-wires.result
    (c.to_le_bytes-rounds.ensures ∙ little_endian a.bound.round) (c.to_le_bytes-wires.ensures ∙ little_endian a.bound.wire) c.seven_fields.ensures
