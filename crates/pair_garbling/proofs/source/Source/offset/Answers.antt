-- `pair_garbling::source::Source::offset` meets its contract: the place goes by the rank.
-- Assumes nothing.
use Rattle.pair_garbling.proofs.Looked.{offset-found}
use Rattle.pair_garbling.proofs.source.Source.offset.Goals as goal

pub returns : goal.returns
returns c = (offset-found c.args.k c.args.self.draw.now c.args.self.ranks.now c.args.q c.piece.ensures.0 c.offset_place.ensures, c.piece.ensures.1)
