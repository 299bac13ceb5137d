-- Document 01, "The plain circuit and a round": the zero keys and the mask of every wire. "An add's or scale's zero key and mask are the
-- same sum or multiple of those of its wires; a select's are those of h plus those of a; the others stand in the records."
-- Assumes nothing.
use Rattle.std.specs.Prelude.{List, [], ℕ, length, get_or}
use Rattle.lists.specs.Grown.{grown}
use Rattle.residue.specs.Residue.{add, mul}
use Rattle.residue.specs.Vector.{add_v, mul_v}
use Rattle.words.specs.declared.gate.Wire.{Wire}
use Rattle.circuit.specs.Wires.{wire_at, modulus_at}
use Rattle.counts.specs.declared.recipe.Recipe.{Recipe}
use Rattle.counts.specs.declared.recipe.Recipe.TheVariants.{Entered, Sum, Multiple, Table, Product, Choice}
use Rattle.counts.specs.Recipe.{recipe}
use Rattle.scheme.specs.Draw.{Draw}
use Rattle.scheme.specs.Keyed.{Keyed}

-- a wire of modulus p, from what its record holds, if it has one, and from the zero keys of the wires below it
unfoldable pub zero_key_by : List ℕ → ℕ → (ℕ → List ℕ) → Recipe → List ℕ
zero_key_by drawn p zero Entered = drawn
zero_key_by drawn p zero (Sum g) = add_v p (zero g.a) (zero g.b)
zero_key_by drawn p zero (Multiple g) = mul_v p g.constant (zero g.a)
zero_key_by drawn p zero (Table g) = drawn
zero_key_by drawn p zero (Product g) = drawn
zero_key_by drawn p zero (Choice g) = add_v p drawn (zero g.a)

unfoldable pub mask_by : ℕ → ℕ → (ℕ → ℕ) → Recipe → ℕ
mask_by drawn p mask Entered = drawn
mask_by drawn p mask (Sum g) = add p (mask g.a) (mask g.b)
mask_by drawn p mask (Multiple g) = mul p g.constant (mask g.a)
mask_by drawn p mask (Table g) = drawn
mask_by drawn p mask (Product g) = drawn
mask_by drawn p mask (Choice g) = add p drawn (mask g.a)

-- of the first wires, so many
unfoldable pub zero_keys_to : List Wire → Draw → ℕ → List (List ℕ)
zero_keys_to wires draw = grown (λ w below. zero_key_by (draw.key w 0) (modulus_at wires w) (λ a. get_or below a []) (recipe (wire_at wires w)))

unfoldable pub masks_to : List Wire → Draw → ℕ → List ℕ
masks_to wires draw = grown (λ w below. mask_by (draw.mask w 0) (modulus_at wires w) (λ a. get_or below a 0) (recipe (wire_at wires w)))

unfoldable pub zero_key : List Wire → Draw → ℕ → List ℕ
zero_key wires draw w = get_or (zero_keys_to wires draw (length wires)) w []

unfoldable pub mask : List Wire → Draw → ℕ → ℕ
mask wires draw w = get_or (masks_to wires draw (length wires)) w 0

-- both of a wire
abbrev pub zero_of : List Wire → Draw → ℕ → Keyed
zero_of wires draw a = record { key = zero_key wires draw a; mask = mask wires draw a }
