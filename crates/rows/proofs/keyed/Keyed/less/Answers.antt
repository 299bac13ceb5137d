-- `rows::Keyed::less` meets its contract: the keys by `keys_of`, and the mask.
-- Assumes nothing.
use mathlib.Core.Path.{sym, ap, ◌∙◌}
use native.Mathlib.Omega.{arith}
use lib.ListN.{take}
use Rattle.residue.proofs.Differences.{difference_is}
use Rattle.rows.proofs.Sizes.{cut_long}
use Rattle.rows.proofs.Messages.{sub_small, keyed_same}
use Rattle.rows.proofs.keyed.Keyed.less.Goals as goal

pub returns : goal.returns
returns c = let x = cut_long {m = c.args.m} c.args.self.key c.requires.0.long c.requires.1.1 in
    (record { long = c.keys_of-key.ensures.0; below = sub_small _ _ (omega (arith, c.requires.0.below)) c.sub.ensures }, keyed_same (ap (λ k. take k c.keys_of-key.result) (sym x) ∙ difference_is _ _ _ (omega (arith, c.requires.0.below)) (x ∙ sym (cut_long c.args.other.key c.requires.1.0.long c.requires.1.1)) c.keys_of-key.ensures.1) c.sub.ensures)
