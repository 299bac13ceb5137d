-- The zero key and the opened key of a wire are each one step from those of lower wires. The definitions grow lists; here the lists are gone: a step reads
-- the final look-ups, since a gate names lower wires alone.
-- Assumes nothing.
use mathlib.Core.Path.{◌≡◌, refl, ap, ap₂, ◌∙◌}
use mathlib.Core.List.{List, []}
use Prim.Native.Nat.{ℕ, ◌<◌}
use native.Mathlib.Omega.{arith}
use lib.ListN.{length}
use Rattle.lists.specs.Blocks.{nth_piece}
use Rattle.lists.proofs.Grown.{get_or-grown, get_or_grown_below}
use Rattle.residue.specs.Vector.{add_v, mul_v}
use Rattle.words.specs.declared.gate.Gate.{Gate}
use Rattle.words.specs.declared.gate.Wire.{Wire}
use Rattle.circuit.specs.Wires.{wire_at, modulus_at}
use Rattle.circuit.specs.Accepted.{GateFits, AcceptedCircuit}
use Rattle.pads.specs.Pad.{Pad}
use Rattle.pair.specs.Draw.{offset_in, zero_in}
use Rattle.pair.specs.Gate.{zero_by, rows_by, open_product, open_by}
use Rattle.pair.specs.Rows.{zero_keys_to, zero_key}
use Rattle.pair.specs.Opening.{own_rows, opened_to, opened_key}

-- ---- a step depends on lower wires alone

module _ {file : List ℕ} {wires : List Wire} {w : ℕ} where
  pub zero_same : {gate : Gate} (modulus_of : ℕ → ℕ) (offset_of : ℕ → List ℕ) (f g : ℕ → List ℕ) (pad : Pad) (K p : ℕ) (drawn : List ℕ)
      → GateFits file wires w gate → ((a : ℕ) → a < w → f a ≡ g a)
      → zero_by file modulus_of offset_of f pad K w p drawn gate ≡ zero_by file modulus_of offset_of g pad K w p drawn gate
  unfolding zero_by
  zero_same modulus_of offset_of f g pad K p drawn (GateFits.input fits) e = refl
  zero_same modulus_of offset_of f g pad K p drawn (GateFits.add {gate} fits) e =
      ap₂ (add_v p) (e gate.a fits.a.lower) (e gate.b fits.b.lower)
  zero_same modulus_of offset_of f g pad K p drawn (GateFits.scale {gate} fits) e = ap (mul_v p gate.constant) (e gate.a fits.a.lower)
  zero_same modulus_of offset_of f g pad K p drawn (GateFits.multiply {gate} fits) e =
      rw (e gate.a fits.a.lower, e gate.b fits.b.lower)
  zero_same modulus_of offset_of f g pad K p drawn (GateFits.project {gate} fits) e = rw (e gate.a fits.lower)
  zero_same modulus_of offset_of f g pad K p drawn (GateFits.select fits) e = refl

  pub rows_same : {gate : Gate} (modulus_of : ℕ → ℕ) (offset_of : ℕ → List ℕ) (f g : ℕ → List ℕ) (pad : Pad) (K p : ℕ)
      → GateFits file wires w gate → ((a : ℕ) → a < w → f a ≡ g a)
      → rows_by file modulus_of offset_of f pad K w p gate ≡ rows_by file modulus_of offset_of g pad K w p gate
  unfolding rows_by
  rows_same modulus_of offset_of f g pad K p (GateFits.input fits) e = refl
  rows_same modulus_of offset_of f g pad K p (GateFits.add fits) e = refl
  rows_same modulus_of offset_of f g pad K p (GateFits.scale fits) e = refl
  rows_same modulus_of offset_of f g pad K p (GateFits.multiply {gate} fits) e =
      rw (e gate.a fits.a.lower, e gate.b fits.b.lower)
  rows_same modulus_of offset_of f g pad K p (GateFits.project {gate} fits) e = rw (e gate.a fits.lower)
  rows_same modulus_of offset_of f g pad K p (GateFits.select fits) e = refl

  pub open_same : {gate : Gate} (pad : Pad) (K p : ℕ) (modulus_of : ℕ → ℕ) (rows given : List ℕ) (f g : ℕ → List ℕ)
      → GateFits file wires w gate → ((a : ℕ) → a < w → f a ≡ g a)
      → open_by pad K w p modulus_of rows given f gate ≡ open_by pad K w p modulus_of rows given g gate
  unfolding open_by open_product
  open_same pad K p modulus_of rows given f g (GateFits.input fits) e = refl
  open_same pad K p modulus_of rows given f g (GateFits.add {gate} fits) e =
      ap₂ (add_v p) (e gate.a fits.a.lower) (e gate.b fits.b.lower)
  open_same pad K p modulus_of rows given f g (GateFits.scale {gate} fits) e = ap (mul_v p gate.constant) (e gate.a fits.a.lower)
  open_same pad K p modulus_of rows given f g (GateFits.multiply {gate} fits) e =
      rw (e gate.a fits.a.lower, e gate.b fits.b.lower)
  open_same pad K p modulus_of rows given f g (GateFits.project {gate} fits) e = rw (e gate.a fits.lower)
  open_same pad K p modulus_of rows given f g (GateFits.select fits) e = refl

-- ---- the two steps

module _ {file : List ℕ} {wires : List Wire} {outputs : List ℕ} (accepted : AcceptedCircuit file wires outputs) (w : ℕ) (made : w < length wires)
    (pad : Pad) (K : ℕ) where
  pub zero_key-step : (draw : List ℕ) → zero_key pad K file wires draw w
      ≡ zero_by file (modulus_at wires) (offset_in K wires draw) (zero_key pad K file wires draw) pad K w (modulus_at wires w) (zero_in K wires draw w)
      (wire_at wires w).gate
  unfolding zero_key zero_keys_to
  zero_key-step draw =
      get_or-grown _ (length wires) w [] made
      ∙ zero_same (modulus_at wires) (offset_in K wires draw) _ (zero_key pad K file wires draw) pad K (modulus_at wires w) (zero_in K wires draw w)
      (accepted.fits w made).gate
      (λ a l. get_or_grown_below _ w (length wires) a [] l (omega arith))

  pub opened_key-step : (keys rows : List ℕ) → opened_key pad K wires keys rows w
      ≡ open_by pad K w (modulus_at wires w) (modulus_at wires) (own_rows K wires rows w) (nth_piece keys K w) (opened_key pad K wires keys rows)
      (wire_at wires w).gate
  unfolding opened_key opened_to
  opened_key-step keys rows =
      get_or-grown _ (length wires) w [] made
      ∙ open_same pad K (modulus_at wires w) (modulus_at wires) (own_rows K wires rows w) (nth_piece keys K w) _ (opened_key pad K wires keys rows)
      (accepted.fits w made).gate
      (λ a l. get_or_grown_below _ w (length wires) a [] l (omega arith))
