-- `residue::keys::difference` meets its contract: p - 1 times a vector is what takes it off.
-- Assumes nothing.
use Rattle.residue.proofs.Differences.{difference_is}
use Rattle.residue.proofs.keys.difference.Goals as goal

pub key_of-requires : goal.key_of-requires
key_of-requires c = record { aligned = record { positive = c.requires.p_nonzero; size = c.requires.a_len.0 }; out_len = c.requires.a_len.1 }

pub shape_of-out : goal.shape_of-out
shape_of-out c = c.key_of.auto.out

pub returns : goal.returns
returns c = difference_is _ _ _ c.requires.p_nonzero c.requires.a_len.0 c.key_of.ensures
