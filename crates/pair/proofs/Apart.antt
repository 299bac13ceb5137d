-- Document 02, order 8, "components 0 and 1": the two halves of a product take their pads at different places, whatever their keys and moduli are. Opening would
-- be right with one component for both too; this is what shuts it out.
-- Assumes nothing.
use mathlib.Core.Path.{◌≡◌, ap}
use mathlib.Core.List.{List}
use Prim.Native.Nat.{ℕ}
use native.Mathlib.Omega.{arith}
use Rattle.words.specs.declared.gate.Pair.{Pair}
use Rattle.pads.specs.Pad.{Under, placed}
use Rattle.pair.specs.Half.{Half}
use Rattle.pair.specs.Gate.{first_half, second_half}

module _ (file : List ℕ) (modulus_of : ℕ → ℕ) (offset_of zero_of : ℕ → List ℕ) (p : ℕ) (g : Pair) where
  abbrev first : Half
  first = first_half file modulus_of offset_of zero_of p g

  abbrev second : Half
  second = second_half file modulus_of offset_of zero_of p g

  pub halves_apart : (w q q' : ℕ) → placed q w first.component ≡ placed q' w second.component → ⊥
  halves_apart w q q' e =
      let components : first.component ≡ second.component = ap (λ (place : Under). place.component) e in
      omega (arith, components)
