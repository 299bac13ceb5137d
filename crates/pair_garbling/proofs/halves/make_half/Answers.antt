-- `pair_garbling::halves::make_half` meets its contract: the key of external value 0, the zero key by it, then the rows.
-- Assumes nothing.
use Rattle.pair_garbling.proofs.Made.{start_is, half-key, half-rows}
use Rattle.pair_garbling.proofs.halves.make_half.Goals as goal

pub returns : goal.returns
returns c = let f = c.requires.fits.0 in
    let v = c.requires.fits.1 in
    let s = start_is f c.args.factors v c.mul-minus.ensures c.key_of.ensures in
    let k = half-key f c.args.factors v s c.put_key.ensures in
    (k, half-rows f c.args.factors v s k c.put_rows.ensures)
