-- The plain value of a wire by its recipe, from the values of lower wires: what a gate is garbled as computes what the gate does.
-- Assumes nothing.
use mathlib.Core.Path.{◌≡◌, refl, sym, ap, ap₂, ◌∙◌}
use mathlib.Core.Bool.{Bool, true, false}
use mathlib.Core.List.{List}
use Prim.Native.Nat.{ℕ, zero, suc, ◌*◌, ◌%◌, ◌<◌}
use native.Mathlib.Omega.{arith}
use borrow.Author.Tests.{eqb-true}
use lib.Dec.{eqb}
use lib.ListN.{length, get_or}
use Rattle.lists.proofs.Grown.{get_or-grown, get_or_grown_below}
use Rattle.residue.specs.Residue.{add, mul}
use Rattle.words.specs.declared.gate.Gate.{Gate}
use Rattle.words.specs.declared.gate.Gate.TheVariants.{Input, Add, Scale, Multiply, Project, Select}
use Rattle.words.specs.declared.gate.Pair.{Pair}
use Rattle.words.specs.declared.gate.Wire.{Wire}
use Rattle.circuit.specs.Wires.{wire_at, modulus_at}
use Rattle.circuit.specs.Accepted.{GateFits, AcceptedCircuit}
use Rattle.counts.specs.declared.recipe.Images.TheVariants.{Squares}
use Rattle.counts.specs.declared.recipe.Recipe.{Recipe}
use Rattle.counts.specs.declared.recipe.Recipe.TheVariants.{Entered, Sum, Multiple, Table, Product, Choice}
use Rattle.counts.specs.Recipe.{is_square, square_of, square_or_product, recipe_of, recipe, image_of}
use Rattle.plain.specs.Plain.{chosen_by, plain_by, plain_to, plain_values}

-- the value of wire w, of modulus p, by its recipe
unfoldable pub value_by : List ℕ → List ℕ → ℕ → ℕ → Recipe → (ℕ → ℕ) → ℕ
value_by file inputs w p Entered value = get_or inputs w 0
value_by file inputs w p (Sum g) value = add p (value g.a) (value g.b)
value_by file inputs w p (Multiple g) value = mul p g.constant (value g.a)
value_by file inputs w p (Table g) value = image_of file g.images p (value g.a)
value_by file inputs w p (Product g) value = mul p (value g.a) (value g.b)
value_by file inputs w p (Choice g) value = chosen_by (eqb (value g.bit) 0) (value g.a) (value g.b)

-- v·v and v are both even or both odd
same-parity : (v : ℕ) → v * v % 2 ≡ v % 2
same-parity zero = refl
same-parity (suc v) = omega (arith, same-parity v)

-- a bit times itself is that bit, once
bit_square : (p v : ℕ) → p ≡ 2 → mul p v v ≡ mul p 1 v
unfolding mul
bit_square p v e = rw e (same-parity v ∙ omega arith)

-- a square's image is its plain value
square_image : (file : List ℕ) (p v : ℕ) → mul p v v ≡ image_of file Squares p v
unfolding image_of
square_image file p v = refl

-- a square, whether of a bit or not
square_value : (file inputs : List ℕ) (w p a : ℕ) (value : ℕ → ℕ) (bit : Bool) → eqb p 2 ≡ bit
    → mul p (value a) (value a) ≡ value_by file inputs w p (square_of a p) value
unfolding value_by
square_value file inputs w p a value true e = bit_square p (value a) (eqb-true p 2 e) ∙ rw e
square_value file inputs w p a value false e = square_image file p (value a) ∙ rw e

multiply_value : (file inputs : List ℕ) (w p : ℕ) (g : Pair) (value : ℕ → ℕ) (square : Bool) → is_square g ≡ square
    → mul p (value g.a) (value g.b) ≡ value_by file inputs w p (square_or_product g p) value
unfolding value_by
multiply_value file inputs w p g value true e =
    ap (λ (b : ℕ). mul p (value g.a) (value b)) (sym (eqb-true g.a g.b e)) ∙ square_value file inputs w p g.a value (eqb p 2) refl ∙ rw e
multiply_value file inputs w p g value false e = rw e

-- it is that of the gate
same-value : (file inputs : List ℕ) (w p : ℕ) (gate : Gate) (value : ℕ → ℕ)
    → plain_by file inputs w p gate value ≡ value_by file inputs w p (recipe_of gate p) value
unfolding plain_by value_by image_of
same-value file inputs w p (Input g) value = refl
same-value file inputs w p (Add g) value = refl
same-value file inputs w p (Scale g) value = refl
same-value file inputs w p (Multiply g) value = multiply_value file inputs w p g value (is_square g) refl
same-value file inputs w p (Project g) value = refl
same-value file inputs w p (Select g) value = refl

-- a gate looks at lower wires alone
by_lower_wires : {file : List ℕ} {wires : List Wire} {w : ℕ} {gate : Gate} (values : List ℕ) (p : ℕ) (f g : ℕ → ℕ)
    → GateFits file wires w gate → ((a : ℕ) → a < w → f a ≡ g a) → plain_by file values w p gate f ≡ plain_by file values w p gate g
unfolding plain_by
by_lower_wires values p f g (GateFits.input fits) e = refl
by_lower_wires values p f g (GateFits.add {gate} fits) e = ap₂ (add p) (e gate.a fits.a.lower) (e gate.b fits.b.lower)
by_lower_wires values p f g (GateFits.scale {gate} fits) e = ap (mul p gate.constant) (e gate.a fits.a.lower)
by_lower_wires values p f g (GateFits.multiply {gate} fits) e = ap₂ (mul p) (e gate.a fits.a.lower) (e gate.b fits.b.lower)
by_lower_wires values p f g (GateFits.project {gate} fits) e = rw (e gate.a fits.lower)
by_lower_wires values p f g (GateFits.select {gate} fits) e =
    rw (e gate.bit fits.lower, e gate.a fits.a.lower, e gate.b fits.b.lower)

-- the value of a wire of an accepted circuit is one step from those of lower wires: by its gate, and by its recipe
module _ {file : List ℕ} {wires : List Wire} {outputs : List ℕ} (accepted : AcceptedCircuit file wires outputs) (w : ℕ) (made : w < length wires) (values : List ℕ) where
  pub plain_value : get_or (plain_values file wires values) w 0
      ≡ plain_by file values w (modulus_at wires w) (wire_at wires w).gate (λ a. get_or (plain_values file wires values) a 0)
  unfolding plain_values plain_to
  plain_value =
      get_or-grown _ (length wires) w 0 made
      ∙ by_lower_wires values (modulus_at wires w) _ (λ a. get_or (plain_values file wires values) a 0) (accepted.fits w made).gate
      (λ a l. get_or_grown_below _ w (length wires) a 0 l (omega arith))

  pub plain_step : get_or (plain_values file wires values) w 0
      ≡ value_by file values w (modulus_at wires w) (recipe (wire_at wires w)) (λ a. get_or (plain_values file wires values) a 0)
  unfolding recipe
  plain_step = plain_value ∙ same-value file values w (modulus_at wires w) (wire_at wires w).gate (λ a. get_or (plain_values file wires values) a 0)
