-- `pair_calls::put_key` meets its contract: two pieces of the draw, and a key of them. Assumes nothing.
use mathlib.Core.Path.{◌∙◌, sym, ap₂}
use mathlib.Core.List.{List}
use Prim.Native.Nat.{ℕ}
use native.Mathlib.Omega.{arith}
use Rattle.residue.specs.Vector.{key_v}
use Rattle.pair_calls.proofs.keys.put_key.Goals as goal

pub piece-start-requires : goal.piece-start-requires
piece-start-requires c = omega (arith, c.requires.k_in_bounds.0, c.requires.k_in_bounds.1)

pub piece-step-requires : goal.piece-step-requires
piece-step-requires c = omega (arith, c.requires.k_in_bounds.0, c.requires.k_in_bounds.1)

pub key_of-requires : goal.key_of-requires
key_of-requires c = record { aligned = record { positive = c.requires.p_nonzero.0; size = c.piece-start.ensures.1 ∙ sym c.piece-step.ensures.1 }; out_len = c.requires.p_nonzero.1 ∙ sym c.piece-start.ensures.1 }

pub returns : goal.returns
returns c = c.key_of.ensures ∙ ap₂ (λ (z o : List ℕ). key_v c.args.p z c.args.v o) c.piece-start.ensures.0 c.piece-step.ensures.0
