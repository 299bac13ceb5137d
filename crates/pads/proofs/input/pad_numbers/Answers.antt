-- `pads::input::pad_numbers` meets its contract, by what the sponge took in and what SHAKE256 gives of it.
-- Assumes nothing.
use mathlib.Core.Path.{ap, ◌∙◌}
use Prim.Native.Nat.{◌<◌}
use native.Mathlib.Omega.{arith}
use Rattle.shake.specs.Numbers.{numbers}
use Rattle.shake.proofs.Whole.{is-shake256}
use Rattle.pads.proofs.Taken.{input-bytes}
use Rattle.pads.specs.Pad.{pad_input}
use Rattle.pads.specs.Binding.{under_of, bound_by}
use Rattle.pads.proofs.input.pad_numbers.Goals as goal

pub returns : goal.returns
returns c = let a = c.args in
    let small : a.bound.modulus < 256 = omega (arith, c.well_formed) in
    let short : a.bound.component < 256 = omega (arith, c.well_formed) in
    let bytes = input-bytes a.bound.round (under_of a.bound) a.receiver a.key.now small short c.ranges.receiver.fits (λ i. (c.type_inv.key i).fits) in
    c.squeeze_numbers.ensures ∙ ap numbers (is-shake256 c.pad_sponge.result (pad_input a.bound.round (bound_by a.bound a.receiver a.key.now)) c.finished.result _ bytes c.pad_sponge.ensures c.finished.ensures)
