-- The rows of one component of a gate, as the code makes them, and what is asked of what they are made of.
-- Assumes nothing.
use Rattle.std.specs.Prelude.{◌≡◌, List, ◌++◌, ℕ, ◌*◌, ◌<◌, length, get_or, take}
use Rattle.lists.specs.Blocks.{blocks}
use Rattle.residue.specs.Residue.{add, mul}
use Rattle.residue.specs.Vector.{key_v}
use Rattle.pads.specs.Pad.{shake_pad}
use Rattle.counts.specs.declared.recipe.Images.{Images}
use Rattle.counts.specs.Recipe.{image_of}
use Rattle.scheme.specs.Keyed.{Keyed}
use Rattle.scheme.specs.Message.{product_message₁, corrector_message₀, corrector_message₁}
use Rattle.scheme.specs.Gate.{row, table_rows, product_rows, choice_rows}
use Rattle.session.specs.Sizes.{Sizes, Vector}
use Rattle.rows.specs.declared.rows.Row.{Row}
use Rattle.rows.specs.declared.gates.Made.{Made}
use Rattle.rows.specs.declared.keyed.Keyed.{Keyed as Held}

-- ---- one row, and a row for each α below the keys' modulus

abbrev pub row_of : Row → List ℕ → List ℕ → List ℕ
row_of r keys message = row (shake_pad r.bound.round) r.n r.k r.bound.wire r.q r.bound.modulus r.bound.component keys message

abbrev pub component_rows : Row → List ℕ → List ℕ → List ℕ → List ℕ → List ℕ → List ℕ
component_rows r factors zero offset base given =
    blocks r.bound.modulus (λ α. row_of r (key_v r.bound.modulus zero α offset) (key_v r.q base (get_or factors α 0) given))

-- room for so many rows of n·K bytes, for a gate of modulus p, which is above 1
pub record Room (n K p : ℕ) (out : List ℕ) (rows : ℕ) : Type 0 where
  pub sizes : Sizes n K
  pub modulus : 1 < p
  pub size : length out ≡ rows * (n * K)

-- keys of a modulus above 0, and the four vectors of a component, of n·K bytes each
pub record Four (r : Row) (k D b g : List ℕ) : Type 0 where
  pub positive : 0 < r.bound.modulus
  pub zero : Vector r.n r.k k
  pub offset : Vector r.n r.k D
  pub base : Vector r.n r.k b
  pub given : Vector r.n r.k g

-- a factor for each α below p
pub record Factors (p : ℕ) (f : ℕ → ℕ) (factors : List ℕ) : Type 0 where
  pub size : length factors ≡ 256
  pub at : (α : ℕ) → α < p → get_or factors α 0 ≡ f α

-- ---- keys and masks

-- what a pair of keys and mask stands for: m bytes of keys
abbrev pub keyed_of : ℕ → Held → Keyed
keyed_of m x = record { key = take m x.key; mask = x.mask }

-- the array is whole, and the mask is below p
pub record Operand (p : ℕ) (x : Held) : Type 0 where
  pub long : length x.key ≡ 1024
  pub below : x.mask < p

-- ---- the rows of a gate, for the wire that it makes

abbrev pub RoomFor : Made → List ℕ → ℕ → Type 0
RoomFor made out rows = Room made.n made.k made.modulus out rows

abbrev pub VectorFor : Made → List ℕ → Type 0
VectorFor made xs = Vector made.n made.k xs

abbrev pub held_in : Made → Held → Keyed
held_in made x = keyed_of (made.n * made.k) x

abbrev pub row_for : Made → ℕ → ℕ → Row
row_for made q component =
    record { n = made.n; k = made.k; q = made.modulus; bound = record { round = made.round; modulus = q; wire = made.wire; component = component } }

module _ (made : Made) where
  abbrev p : ℕ
  p = made.modulus

  -- message plus pads, under keys of modulus q
  abbrev pub padded : ℕ → ℕ → List ℕ → List ℕ → List ℕ
  padded q component keys message = row (shake_pad made.round) made.n made.k made.wire p q component keys message

  abbrev pub table_made : List ℕ → Images → ℕ → Keyed → List ℕ → Keyed → List ℕ → List ℕ
  table_made file images q a Dₐ z D = table_rows (shake_pad made.round) made.n made.k made.wire (image_of file images p) q a Dₐ p z D

  -- base + (start + α·step)·D, under the keys k + α·D
  abbrev pub linear_made : ℕ → List ℕ → List ℕ → List ℕ → ℕ → ℕ → List ℕ
  linear_made component D k base start step =
      blocks p (λ α. padded p component (key_v p k α D) (key_v p base (add p start (mul p α step)) D))

  abbrev pub second_made : List ℕ → Keyed → Keyed → Keyed → List ℕ
  second_made D a b second =
      blocks p (λ β. padded p 1 (key_v p b.key β D) (product_message₁ p D second.key second.mask a.key a.mask β))

  abbrev pub product_made : List ℕ → Keyed → Keyed → Keyed → Keyed → List ℕ
  product_made D a b z first = product_rows (shake_pad made.round) made.n made.k made.wire p D a b z first

  abbrev pub chooser_made : List ℕ → List ℕ → List ℕ → ℕ → Keyed → List ℕ
  chooser_made D D₂ bit α x = padded 2 0 (key_v 2 bit α D₂) (key_v p x.key x.mask D)

  abbrev pub both_choosers : List ℕ → List ℕ → List ℕ → Keyed → Keyed → List ℕ
  both_choosers D D₂ bit first second = chooser_made D D₂ bit 0 first ++ chooser_made D D₂ bit 1 second

  abbrev pub correctors_made : List ℕ → ℕ → Keyed → Keyed → Keyed → List ℕ
  correctors_made D mᵥ d first second =
      blocks p (λ α. padded p 1 (key_v p d.key α D) (corrector_message₀ p D first.key first.mask mᵥ d.mask α))
      ++ blocks p (λ α. padded p 2 (key_v p d.key α D) (corrector_message₁ p D second.key second.mask mᵥ d.mask α))

  abbrev pub choice_made : List ℕ → List ℕ → Keyed → Keyed → Keyed → Keyed → Keyed → List ℕ
  choice_made D D₂ bit d z first second = choice_rows (shake_pad made.round) made.n made.k made.wire p D D₂ bit d z first second
