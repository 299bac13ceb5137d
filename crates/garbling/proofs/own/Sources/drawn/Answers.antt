use mathlib.Core.Path.{sym, subst}
use Prim.Native.Nat.{ℕ, ◌<◌}
use native.Mathlib.Nat.{mod-lt}
use native.Mathlib.Omega.{arith}
use Rattle.zero.specs.Turn.{mask_at}
use Rattle.garbling.proofs.Fronts.{pair_is}
use Rattle.garbling.proofs.own.Sources.drawn.Goals as goal

pub returns : goal.returns
unfolding mask_at
returns c = record {
  whole = record { long = c.keys_at-key.ensures.kept; below = subst (λ (x : ℕ). x < c.args.turn.modulus) (sym c.share_sum-mask.ensures) (mod-lt _ (omega (arith, c.requires.0.modulus))) };
  is = pair_is c.keys_at-key.ensures.front c.share_sum-mask.ensures;
}
