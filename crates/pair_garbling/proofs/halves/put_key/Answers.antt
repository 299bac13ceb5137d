-- `pair_garbling::halves::put_key` meets its contract: row 0 is made without a zero key, and p - 1 times it takes it off.
-- Assumes nothing.
use mathlib.Core.Path.{ap, ◌∙◌}
use Prim.Native.Nat.{ℕ}
use lib.ListN.{replicate}
use Rattle.pair_garbling.proofs.Made.{message_asked, message_sizes, key-is}
use Rattle.pair_garbling.proofs.halves.put_key.Goals as goal

pub add_pad_row-requires : goal.add_pad_row-requires
add_pad_row-requires c = let a = c.args in
    let z = c.fill.ensures.after (λ y e. e) ∙ ap (λ (n : ℕ). replicate n 0) c.requires.vector_len.1 in record { asked = message_asked c.requires.fits.0 a.c a.vector.now z c.add_multiple.ensures; row = message_sizes c.requires.fits.0 a.c a.vector.now z c.add_multiple.ensures c.requires.fits.1 (c.add_multiple.auto.out ∙ c.fill.ensures.len ∙ c.requires.vector_len.1) }

pub returns : goal.returns
returns c = let a = c.args in
    let z = c.fill.ensures.after (λ y e. e) ∙ ap (λ (n : ℕ). replicate n 0) c.requires.vector_len.1 in
    key-is c.requires.fits.0 a.c a.vector.now z c.add_multiple.ensures a.keys.now (rw c.bound.ensures at c.add_pad_row.ensures) (c.add_pad_row.auto.out ∙ c.add_multiple.auto.out ∙ c.fill.ensures.len ∙ c.requires.vector_len.1) c.scale.ensures
