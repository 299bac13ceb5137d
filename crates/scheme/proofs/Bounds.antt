-- What is true of every wire of an accepted circuit before anything is opened: its modulus is a prime, its zero keys have n times K entries,
-- and its mask and its plain value are below its modulus; so are its zero keys where what was drawn is.
-- Assumes nothing.
use mathlib.Core.Path.{◌≡◌, refl, sym, ap, ◌∙◌}
use mathlib.Core.List.{List}
use Prim.Native.Nat.{ℕ, ◌*◌, ◌<◌}
use native.Mathlib.Omega.{arith}
use lib.ListN.{length, get_or}
use borrow.Author.Tests.{ltb-true}
use Rattle.residue.specs.Prime.{Prime}
use Rattle.residue.specs.Vector.{AllBelow}
use Rattle.residue.proofs.Moduli.{is_prime→Prime}
use Rattle.residue.proofs.Vectors.{add-below, mul-below, add_v-below, mul_v-below, add_v-length, mul_v-length}
use Rattle.words.specs.declared.gate.Owned.{Owned}
use Rattle.words.specs.declared.gate.Gate.TheVariants.{Input}
use Rattle.words.specs.declared.gate.Wire.{Wire}
use Rattle.circuit.specs.Wires.{wire_at, modulus_at, is_input, inputs_in}
use Rattle.circuit.specs.Accepted.{AcceptedCircuit}
use Rattle.counts.specs.declared.recipe.Recipe.{Recipe}
use Rattle.counts.specs.Recipe.{recipe}
use Rattle.counts.specs.Counts.{record_keys_by, record_keys_of}
use Rattle.counts.proofs.Recipes.{RecipeFits, recipe-fits}
use Rattle.counts.proofs.Recipes.RecipeFits.{entered, sum, multiple, table, product, choice}
use Rattle.plain.specs.Plain.{plain_values}
use Rattle.plain.specs.Ready.{Fed}
use Rattle.plain.proofs.Residues.{plain-below}
use Rattle.scheme.specs.Draw.{Draw}
use Rattle.scheme.specs.Zero.{zero_key_by, mask_by, zero_key, mask}
use Rattle.scheme.specs.Drawn.{WellDrawn}
use Rattle.scheme.proofs.Steps.{by-lower, zero_key-step, mask_step}

module _ {file : List ℕ} {wires : List Wire} {outputs : List ℕ} (accepted : AcceptedCircuit file wires outputs) where
  pub prime : (w : ℕ) → w < length wires → Prime (modulus_at wires w)
  prime w made = is_prime→Prime (modulus_at wires w) (accepted.fits w made).prime

  pub positive : (w : ℕ) → w < length wires → 0 < modulus_at wires w
  positive w made = omega (arith, (prime w made).two)

  pub input-first : {gate : Owned} (w : ℕ) → w < length wires → (wire_at wires w).gate ≡ Input gate → w < inputs_in wires
  input-first w made is = ltb-true w (inputs_in wires) (sym (accepted.inputs_first w made) ∙ ap is_input is)

  module _ {n K : ℕ} {draw : Draw} (drawn : WellDrawn n K wires draw) where
    -- what a wire of known recipe has drawn
    pub key-size : {r : Recipe} (w j : ℕ) → w < length wires → recipe (wire_at wires w) ≡ r → j < record_keys_by r → length (draw.key w j) ≡ n * K
    key-size w j made is h = drawn.key_size w j made (rw is h)

    pub mask-small : {r : Recipe} (w j : ℕ) → w < length wires → recipe (wire_at wires w) ≡ r → j < record_keys_by r → draw.mask w j < modulus_at wires w
    mask-small w j made is h = drawn.mask_below w j made (rw is h)

    module _ (w : ℕ) (made : w < length wires) where
      zero_key_sized : {r : Recipe} → RecipeFits file wires w r → recipe (wire_at wires w) ≡ r
          → ((a : ℕ) → a < w → length (zero_key wires draw a) ≡ n * K)
          → length (zero_key_by (draw.key w 0) (modulus_at wires w) (zero_key wires draw) r) ≡ n * K
      unfolding zero_key_by
      zero_key_sized (entered fits) is lower = key-size w 0 made is (omega arith)
      zero_key_sized (sum {g} fits) is lower =
          add_v-length _ _ _ (lower g.a fits.a.lower ∙ sym (lower g.b fits.b.lower)) ∙ lower g.a fits.a.lower
      zero_key_sized (multiple {g} fits) is lower = mul_v-length _ _ _ ∙ lower g.a fits.a.lower
      zero_key_sized (table fits) is lower = key-size w 0 made is (omega arith)
      zero_key_sized (product fits) is lower = key-size w 0 made is (omega arith)
      zero_key_sized (choice {g} fits) is lower =
          add_v-length _ _ _ (key-size w 0 made is (omega arith) ∙ sym (lower g.a fits.a.lower)) ∙ key-size w 0 made is (omega arith)

      mask_reduced : {r : Recipe} → RecipeFits file wires w r → recipe (wire_at wires w) ≡ r
          → mask_by (draw.mask w 0) (modulus_at wires w) (mask wires draw) r < modulus_at wires w
      unfolding mask_by
      mask_reduced (entered fits) is = mask-small w 0 made is (omega arith)
      mask_reduced (sum fits) is = add-below (positive w made) _ _
      mask_reduced (multiple fits) is = mul-below (positive w made) _ _
      mask_reduced (table fits) is = mask-small w 0 made is (omega arith)
      mask_reduced (product fits) is = mask-small w 0 made is (omega arith)
      mask_reduced (choice fits) is = add-below (positive w made) _ _

      pub mask_below : mask wires draw w < modulus_at wires w
      mask_below = rw (mask_step accepted w made draw) (mask_reduced (recipe-fits accepted w made) refl)

    pub zero_key-size : (w : ℕ) → w < length wires → length (zero_key wires draw w) ≡ n * K
    zero_key-size = by-lower (λ w. w < length wires → length (zero_key wires draw w) ≡ n * K) (λ w lower made.
        ap length (zero_key-step accepted w made draw)
        ∙ zero_key_sized w made (recipe-fits accepted w made) refl (λ a l. lower a l (omega arith)))

  -- a sum or multiple is a residue by itself; what stands in a record is one where contributions pass the checks
  module _ (draw : Draw) (drawn_below : (w : ℕ) → w < length wires → 0 < record_keys_of wires w → AllBelow (modulus_at wires w) (draw.key w 0))
      (w : ℕ) (made : w < length wires) where
    zero_key_reduced : {r : Recipe} → RecipeFits file wires w r → recipe (wire_at wires w) ≡ r
        → AllBelow (modulus_at wires w) (zero_key_by (draw.key w 0) (modulus_at wires w) (zero_key wires draw) r)
    unfolding zero_key_by
    zero_key_reduced (entered fits) is = drawn_below w made (rw is (omega arith))
    zero_key_reduced (sum fits) is = add_v-below (positive w made) _ _
    zero_key_reduced (multiple fits) is = mul_v-below (positive w made) _ _
    zero_key_reduced (table fits) is = drawn_below w made (rw is (omega arith))
    zero_key_reduced (product fits) is = drawn_below w made (rw is (omega arith))
    zero_key_reduced (choice fits) is = add_v-below (positive w made) _ _

    pub zero_key-below : AllBelow (modulus_at wires w) (zero_key wires draw w)
    zero_key-below = rw (zero_key-step accepted w made draw) (zero_key_reduced (recipe-fits accepted w made) refl)

-- a plain value is below its wire's modulus
pub value-below : {file : List ℕ} {wires : List Wire} {outputs values : List ℕ} → Fed file wires outputs values → (w : ℕ) → w < length wires
    → get_or (plain_values file wires values) w 0 < modulus_at wires w
unfolding plain_values
value-below {wires = wires} fed w made = plain-below fed (length wires) (omega arith) w made
