-- `rehearsal::mask_all` meets its contract: the circuit read is the file's. Assumes nothing.
use mathlib.Core.Path.{sym, ◌∙◌}
use Rattle.session.proofs.Circuits.{held_of}
use Rattle.rehearsal.proofs.Asked.{masked_as}
use Rattle.rehearsal.proofs.Sized.{reads, read_as}
use Rattle.rehearsal.proofs.masking.mask_all.Goals as goal

pub unwrap-requires : goal.unwrap-requires
unwrap-requires c = reads c.args.file.now c.read.result c.requires.accepted c.read.ensures.err

pub externals_of_all-requires : goal.externals_of_all-requires
externals_of_all-requires c =
    let h = read_as c.args.file.now c.read.ensures.ok c.unwrap.ensures in
    (held_of h, c.requires.externals_len ∙ sym h.inputs)

pub returns : goal.returns
returns c = let h = read_as c.args.file.now c.read.ensures.ok c.unwrap.ensures in masked_as h.wires c.externals_of_all.ensures
