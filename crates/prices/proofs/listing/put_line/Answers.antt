-- `prices::listing::put_line` meets its contract. Assumes nothing.
use native.Mathlib.Omega.{arith}
use Rattle.prices.proofs.Texts.{number_short, put_line}
use Rattle.prices.proofs.listing.put_line.Goals as goal

pub put_number-a-requires : goal.put_number-a-requires
put_number-a-requires c = omega (arith, number_short 3 c.args.wire 32 c.requires.0.wire)

pub put_number-b-requires : goal.put_number-b-requires
put_number-b-requires c = omega (arith, c.requires.1, c.put_number-a.auto.out, c.put_number-a.ensures.ends, number_short 3 c.args.wire 32 c.requires.0.wire, number_short 0 c.args.kind 32 c.requires.0.kind)

pub put_number-c-requires : goal.put_number-c-requires
put_number-c-requires c = omega (arith, c.requires.1, c.put_number-a.auto.out, c.put_number-a.ensures.ends, c.put_number-b.auto.out, c.put_number-b.ensures.ends, number_short 3 c.args.wire 32 c.requires.0.wire, number_short 0 c.args.kind 32 c.requires.0.kind, number_short 2 c.args.modulus 32 c.requires.0.modulus)

pub put_number-requires : goal.put_number-requires
put_number-requires c = omega (arith, c.requires.1, c.put_number-a.auto.out, c.put_number-a.ensures.ends, c.put_number-b.auto.out, c.put_number-b.ensures.ends, c.put_number-c.auto.out, c.put_number-c.ensures.ends, number_short 3 c.args.wire 32 c.requires.0.wire, number_short 0 c.args.kind 32 c.requires.0.kind, number_short 2 c.args.modulus 32 c.requires.0.modulus, number_short 2 c.args.rows 10 c.requires.0.rows)

pub returns : goal.returns
returns c = put_line c.requires.0 c.put_number-a.ensures c.put_number-b.ensures c.put_number-c.ensures c.put_number.ensures
