-- `party_calls::own_checked` meets its contract: the table holds the moduli of the party's inputs, and no mask is passed over. Assumes nothing.
use mathlib.Core.Path.{ap, ◌∙◌}
use Prim.Native.Nat.{ℕ}
use native.Mathlib.Omega.{arith}
use lib.ListN.{length, length-replicate}
use Rattle.party_calls.proofs.OwnExternals.{own-most, own_met}
use Rattle.party_calls.proofs.masking.own_checked.Goals as goal

pub either_checked-requires : goal.either_checked-requires
either_checked-requires c = let l = c.requires in
    let m = own-most l.room c.args.party in
    let t = c.own_moduli-own.ensures.long in
    let z = ap length c.zeros-everyone.ensures ∙ length-replicate {A = ℕ} 1024 0 in
    record { left = omega (arith, m, t, l.values_size); right = omega (arith, m, t, l.masks_size); readers = omega (arith, m, z, l.masks_size) }

pub returns : goal.returns
returns c = own_met c.requires c.own_moduli-own.ensures c.zeros-everyone.ensures c.either_checked.ensures
