-- `pair_garbling::gates::product_halves` meets its contract: two halves, whose rows stand one behind the other.
-- Assumes nothing.
use mathlib.Core.Path.{refl, sym}
use lib.Seq.{length-take-le}
use Rattle.pair_garbling.proofs.Factored.{half_fits, front_fits, front_long, both_rows, product_key_is, product_rows_is, product_vectors}
use Rattle.pair_garbling.proofs.gates.product_halves.Goals as goal

pub slice_bounds-first_half-end-2 : goal.slice_bounds-first_half-end-2
slice_bounds-first_half-end-2 c = sym (length-take-le _ c.args.out.now (front_fits c.requires.ranged.0 c.args.out.now c.requires.out_len))

pub first_half-requires : goal.first_half-requires
first_half-requires c = rw c.half.ensures (record { fits = (half_fits c.requires.ranged.0 0, ((product_vectors c.args.turn c.args.a.now c.args.b.now c.args.offset.now c.requires.ranged.1.0 c.requires.ranged.1.1).0, front_long c.requires.ranged.0 c.args.out.now c.requires.out_len)); under_value = refl })

pub returns : goal.returns
returns c = let a = c.args in (
  product_key_is a.turn a.a.now a.b.now a.offset.now (rw c.half.ensures at c.first_half.ensures.0) (rw c.half-2.ensures at c.add_second.ensures.0),
  product_rows_is a.turn a.a.now a.b.now a.offset.now (both_rows c.requires.ranged.0 a.out.now c.requires.out_len _ c.first_half.auto.out c.add_second.auto.out (rw c.half.ensures at c.first_half.ensures.1) (rw c.half-2.ensures at c.add_second.ensures.1)),
)
