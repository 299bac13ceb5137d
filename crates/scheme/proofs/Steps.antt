-- The zero key, the mask and the opened state of a wire are each one step from those of lower wires. The definitions grow lists; here the lists are gone: a
-- step reads the final look-ups, since a recipe names lower wires alone.
-- Assumes nothing.
use mathlib.Core.Path.{◌≡◌, refl, ap, ap₂, ◌∙◌}
use mathlib.Core.List.{List, []}
use Prim.Native.Nat.{ℕ, zero, suc, ◌<◌}
use native.Mathlib.Nat.{le_refl, not-suc-le-zero}
use native.Mathlib.Omega.{arith}
use lib.ListN.{length, get_or}
use Rattle.lists.proofs.Grown.{get_or-grown, get_or_grown_below}
use Rattle.residue.specs.Residue.{add, mul}
use Rattle.residue.specs.Vector.{add_v, mul_v}
use Rattle.words.specs.declared.gate.Wire.{Wire}
use Rattle.circuit.specs.Wires.{wire_at, modulus_at}
use Rattle.circuit.specs.Accepted.{AcceptedCircuit}
use Rattle.counts.specs.declared.recipe.Recipe.{Recipe}
use Rattle.counts.specs.Recipe.{recipe}
use Rattle.counts.proofs.Recipes.{RecipeFits, recipe-fits}
use Rattle.counts.proofs.Recipes.RecipeFits.{entered, sum, multiple, table, product, choice}
use Rattle.scheme.specs.Draw.{Draw}
use Rattle.scheme.specs.Zero.{zero_key_by, mask_by, zero_keys_to, masks_to, zero_key, mask}
use Rattle.pads.specs.Pad.{Pad}
use Rattle.scheme.specs.Opening.{Opened, nothing, open_from, open_wire, opened_to, opened}

-- what holds of a number as soon as it holds of all lower ones holds of every number
module _ (P : ℕ → Type 0) (step : (w : ℕ) → ((a : ℕ) → a < w → P a) → P w) where
  before : (n w : ℕ) → w < n → P w
  before zero w h = absurd (not-suc-le-zero h)
  before (suc n) w h = step w (λ a l. before n a (omega arith))

  pub by-lower : (w : ℕ) → P w
  by-lower w = before (suc w) w (le_refl (suc w))

-- ---- a step depends on lower wires alone

module _ {file : List ℕ} {wires : List Wire} {w : ℕ} where
  pub zero_key_same : {r : Recipe} (drawn : List ℕ) (p : ℕ) (f g : ℕ → List ℕ) → RecipeFits file wires w r → ((a : ℕ) → a < w → f a ≡ g a)
      → zero_key_by drawn p f r ≡ zero_key_by drawn p g r
  unfolding zero_key_by
  zero_key_same drawn p f g (entered fits) e = refl
  zero_key_same drawn p f g (sum {g = o} fits) e = ap₂ (add_v p) (e o.a fits.a.lower) (e o.b fits.b.lower)
  zero_key_same drawn p f g (multiple {g = o} fits) e = ap (mul_v p o.constant) (e o.a fits.a.lower)
  zero_key_same drawn p f g (table fits) e = refl
  zero_key_same drawn p f g (product fits) e = refl
  zero_key_same drawn p f g (choice {g = o} fits) e = ap (add_v p drawn) (e o.a fits.a.lower)

  pub mask_same : {r : Recipe} (drawn p : ℕ) (f g : ℕ → ℕ) → RecipeFits file wires w r → ((a : ℕ) → a < w → f a ≡ g a)
      → mask_by drawn p f r ≡ mask_by drawn p g r
  unfolding mask_by
  mask_same drawn p f g (entered fits) e = refl
  mask_same drawn p f g (sum {g = o} fits) e = ap₂ (add p) (e o.a fits.a.lower) (e o.b fits.b.lower)
  mask_same drawn p f g (multiple {g = o} fits) e = ap (mul p o.constant) (e o.a fits.a.lower)
  mask_same drawn p f g (table fits) e = refl
  mask_same drawn p f g (product fits) e = refl
  mask_same drawn p f g (choice {g = o} fits) e = ap (add p drawn) (e o.a fits.a.lower)

  pub open_same : {r : Recipe} (pad : Pad) (n K p : ℕ) (modulus_of : ℕ → ℕ) (found : List ℕ → ℕ) (rows : List ℕ) (given : Opened) (f g : ℕ → Opened)
      → RecipeFits file wires w r → ((a : ℕ) → a < w → f a ≡ g a)
      → open_from pad n K w p modulus_of found rows given f r ≡ open_from pad n K w p modulus_of found rows given g r
  unfolding open_from
  open_same pad n K p modulus_of found rows given f g (entered fits) e = refl
  open_same pad n K p modulus_of found rows given f g (sum {g = o} fits) e = rw (e o.a fits.a.lower, e o.b fits.b.lower)
  open_same pad n K p modulus_of found rows given f g (multiple {g = o} fits) e = rw (e o.a fits.a.lower)
  open_same pad n K p modulus_of found rows given f g (table {g = o} fits) e = rw (e o.a fits.lower)
  open_same pad n K p modulus_of found rows given f g (product {g = o} fits) e = rw (e o.a fits.a.lower, e o.b fits.b.lower)
  open_same pad n K p modulus_of found rows given f g (choice {g = o} fits) e =
      rw (e o.bit fits.lower, e o.a fits.a.lower, e o.b fits.b.lower)

-- ---- the three steps

module _ {file : List ℕ} {wires : List Wire} {outputs : List ℕ} (accepted : AcceptedCircuit file wires outputs) (w : ℕ) (made : w < length wires) where
  module _ (draw : Draw) where
    pub zero_key-step : zero_key wires draw w ≡ zero_key_by (draw.key w 0) (modulus_at wires w) (zero_key wires draw) (recipe (wire_at wires w))
    unfolding zero_key zero_keys_to
    zero_key-step =
        get_or-grown _ (length wires) w [] made
        ∙ zero_key_same (draw.key w 0) (modulus_at wires w) _ (zero_key wires draw) (recipe-fits accepted w made)
        (λ a l. get_or_grown_below _ w (length wires) a [] l (omega arith))

    pub mask_step : mask wires draw w ≡ mask_by (draw.mask w 0) (modulus_at wires w) (mask wires draw) (recipe (wire_at wires w))
    unfolding mask masks_to
    mask_step =
        get_or-grown _ (length wires) w 0 made
        ∙ mask_same (draw.mask w 0) (modulus_at wires w) _ (mask wires draw) (recipe-fits accepted w made)
        (λ a l. get_or_grown_below _ w (length wires) a 0 l (omega arith))

  module _ (pad : Pad) (n K s : ℕ) (own : Draw) (inputs keys rows : List ℕ) where
    pub open_step : get_or (opened pad n K s wires own inputs keys rows) w nothing
        ≡ open_wire pad n K s wires own inputs keys rows w (λ a. get_or (opened pad n K s wires own inputs keys rows) a nothing)
    unfolding opened opened_to open_wire
    open_step =
        get_or-grown _ (length wires) w nothing made
        ∙ open_same pad n K (modulus_at wires w) (modulus_at wires) _ _ _ _ (λ a. get_or (opened pad n K s wires own inputs keys rows) a nothing)
        (recipe-fits accepted w made)
        (λ a l. get_or_grown_below _ w (length wires) a nothing l (omega arith))
