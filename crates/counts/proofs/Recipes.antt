-- The recipe of a gate that is known, and what acceptance says of a wire by its recipe: which wires it is made of, and that they fit. Whoever goes by
-- recipe needs no other account of acceptance.
-- Assumes nothing.
use mathlib.Core.Path.{◌≡◌, refl, sym, ap, subst}
use mathlib.Core.Bool.{Bool, true, false}
use mathlib.Core.List.{List}
use Prim.Native.Nat.{ℕ, ◌+◌, ◌*◌, ◌/◌, ◌<◌}
use native.Mathlib.Omega.{arith}
use borrow.Author.Tests.{ltb-true, eqb-true, eq-eqb, ne_eqb}
use lib.Dec.{ltb, eqb}
use lib.ListN.{length}
use Rattle.words.specs.declared.gate.Gate.{Gate}
use Rattle.words.specs.declared.gate.Wire.{Wire}
use Rattle.words.specs.declared.gate.Pair.{Pair}
use Rattle.words.specs.declared.gate.Scaling.{Scaling}
use Rattle.words.specs.declared.gate.Choice.{Choice as Chosen}
use Rattle.circuit.specs.Wires.{wire_at, modulus_at, is_input, inputs_in}
use Rattle.circuit.specs.Accepted.{Alike, GateFits, PairFits, ScalingFits, ChoiceFits, AcceptedCircuit}
use Rattle.circuit.proofs.Moduli.{wire-positive}
use Rattle.residue.proofs.Vectors.{mul-below}
use Rattle.counts.specs.declared.recipe.Images.{Images}
use Rattle.counts.specs.declared.recipe.Images.TheVariants.{File, Squares}
use Rattle.counts.specs.declared.recipe.Lookup.{Lookup}
use Rattle.counts.specs.declared.recipe.Recipe.{Recipe}
use Rattle.counts.specs.declared.recipe.Recipe.TheVariants.{Entered, Sum, Multiple, Table, Product, Choice}
use Rattle.counts.specs.Recipe.{is_square, square_of, square_or_product, recipe_of, recipe, image_of}
use Rattle.counts.specs.Images.{ImageHeld, ImagesFit}

-- where the gate is known, so is the recipe
pub by-gate : (wire : Wire) {gate : Gate} → wire.gate ≡ gate → recipe wire ≡ recipe_of gate wire.modulus
unfolding recipe
by-gate wire e = ap (λ (g : Gate). recipe_of g wire.modulus) e

-- where the wires of a multiply are compared, so is its recipe
pub a_square : (g : Pair) (p : ℕ) → g.a ≡ g.b → square_or_product g p ≡ square_of g.a p
a_square g p e = rw (eq-eqb g.a g.b e)

pub a-product : (g : Pair) (p : ℕ) → (g.a ≡ g.b → ⊥) → square_or_product g p ≡ Product g
a-product g p e = rw (ne_eqb g.a g.b e)

-- and where its modulus is compared with 2, that of a square
pub a_copy : (a p : ℕ) → p ≡ 2 → square_of a p ≡ Multiple (record { constant = 1; a = a })
a_copy a p e = rw (eq-eqb p 2 e)

pub a-table : (a p : ℕ) → (p ≡ 2 → ⊥) → square_of a p ≡ Table (record { a = a; images = Squares })
a-table a p e = rw (ne_eqb p 2 e)

-- where the sort of images is known: those of a file stand there
held-inside : {file : List ℕ} {v table : ℕ} → ImageHeld file v (File table) → 4 * (table + v) < length file
held-inside (ImageHeld.in_file h) = h

pub in-file : {file : List ℕ} {v table : ℕ} {images : Images} → images ≡ File table → ImageHeld file v images → 4 * (table + v) < length file
in-file {file} {v} e h = held-inside (subst (λ (i : Images). ImageHeld file v i) e h)

-- a table: over a lower wire, with images below the modulus of the wire that it makes
pub record TableFits (file : List ℕ) (wires : List Wire) (w : ℕ) (g : Lookup) : Type 0 where
  pub lower : g.a < w
  pub images : ImagesFit file g.images (modulus_at wires g.a) (modulus_at wires w)

-- wire w, by its recipe
pub data RecipeFits (file : List ℕ) (wires : List Wire) (w : ℕ) : Recipe → Type 0 where
  entered : w < inputs_in wires → RecipeFits file wires w Entered
  sum : {g : Pair} → PairFits wires w g → RecipeFits file wires w (Sum g)
  multiple : {g : Scaling} → ScalingFits wires w g → RecipeFits file wires w (Multiple g)
  table : {g : Lookup} → TableFits file wires w g → RecipeFits file wires w (Table g)
  product : {g : Pair} → PairFits wires w g → RecipeFits file wires w (Product g)
  choice : {g : Chosen} → ChoiceFits wires w g → RecipeFits file wires w (Choice g)

inside : (i n : ℕ) → i < n / 4 → 4 * i < n
inside i n l = omega arith

module _ {file : List ℕ} {wires : List Wire} {outputs : List ℕ} (accepted : AcceptedCircuit file wires outputs) (w : ℕ) (made : w < length wires) where
  -- a bit's constant is 1, which is below 2
  by_modulus : (a : ℕ) (bit : Bool) → eqb (modulus_at wires w) 2 ≡ bit → Alike wires w a → RecipeFits file wires w (square_of a (modulus_at wires w))
  unfolding image_of
  by_modulus a true e fits =
      rw e
      (multiple {g = record { constant = 1; a = a }} (record { a = fits; positive = omega arith; below = omega (arith, eqb-true (modulus_at wires w) 2 e) }))
  by_modulus a false e fits =
      rw e
      (table
      (record {
        lower = fits.lower;
        images = record { held = λ v h. ImageHeld.computed; below = λ v h. mul-below (wire-positive accepted w made) _ _ };
      }))

  by_square : {g : Pair} (square : Bool) → is_square g ≡ square → PairFits wires w g → RecipeFits file wires w (square_or_product g (modulus_at wires w))
  by_square true e fits = rw e (by_modulus _ (eqb (modulus_at wires w) 2) refl fits.a)
  by_square false e fits = rw e (product fits)

  by-kind : {gate : Gate} → GateFits file wires w gate → is_input gate ≡ ltb w (inputs_in wires) → RecipeFits file wires w (recipe_of gate (modulus_at wires w))
  unfolding image_of
  by-kind (GateFits.input fits) first = entered (ltb-true w (inputs_in wires) (sym first))
  by-kind (GateFits.add fits) first = sum fits
  by-kind (GateFits.scale fits) first = multiple fits
  by-kind (GateFits.multiply {gate = g} fits) first = by_square (is_square g) refl fits
  by-kind (GateFits.project fits) first =
      table
      (record {
        lower = fits.lower;
        images = record { held = λ v h. ImageHeld.in_file (inside _ _ (fits.entries v h).inside); below = λ v h. (fits.entries v h).image };
      })
  by-kind (GateFits.select fits) first = choice fits

  pub recipe-fits : RecipeFits file wires w (recipe (wire_at wires w))
  unfolding recipe
  recipe-fits = by-kind (accepted.fits w made).gate (accepted.inputs_first w made)
