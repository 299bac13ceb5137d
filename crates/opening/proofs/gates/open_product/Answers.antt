-- `opening::open_product` meets its contract: a row of each component without its pads, and a multiple of the keys of a. Assumes nothing.
use mathlib.Core.Path.{sym, ◌∙◌}
use Prim.Native.Nat.{◌+◌}
use native.Mathlib.Omega.{arith}
use Rattle.opening.proofs.Bared.{row_inside, row_below, product_is}
use Rattle.opening.proofs.gates.open_product.Goals as goal

pub bare-requires : goal.bare-requires
bare-requires c = record { sizes = (c.requires.seated.0.sizes, (c.requires.seated.0.modulus, row_below c.requires.seated.1.0 _ c.nth_piece-row.ensures.0)); vector = (c.requires.vector.0, (record { size = c.nth_piece-row.ensures.1 }, c.requires.vector.1.1)) }

pub nth_piece-second-requires : goal.nth_piece-second-requires
nth_piece-second-requires c = row_inside c.requires.seated.1.0 {i = c.args.turn.modulus + c.args.eb} (omega (arith, c.requires.seated.1.1.1)) (omega (arith, c.from-2.ensures, c.from-3.ensures))

pub add_multiple-requires : goal.add_multiple-requires
add_multiple-requires c = record { positive = omega (arith, c.requires.seated.0.modulus); size = c.add_bare.auto.out ∙ c.bare.auto.out ∙ c.requires.vector.1.1.size ∙ sym c.requires.vector.0.size }

pub returns : goal.returns
returns c = product_is _ _ _ _ _ c.args.rows.now _ _ _ _ c.nth_piece-row.ensures.0 c.from.ensures c.nth_piece-second.ensures.0 (omega (arith, c.from-2.ensures, c.from-3.ensures)) c.bare.ensures c.add_bare.ensures c.add_multiple.ensures
