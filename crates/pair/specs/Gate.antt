-- Document 02, order 8: the zero key that a gate makes, its rows, and how it is opened, from the wires that it uses. The code that garbles and opens for two and
-- the circuit's definitions cite these same ones.
-- Assumes nothing.
use Rattle.std.specs.Prelude.{List, [], ◌++◌, ℕ, ◌-◌, ◌*◌, replicate}
use Rattle.lists.specs.Blocks.{part}
use Rattle.residue.specs.Residue.{sub, mul}
use Rattle.residue.specs.Vector.{add_v, mul_v}
use Rattle.words.specs.declared.gate.Gate.{Gate}
use Rattle.words.specs.declared.gate.Gate.TheVariants.{Input, Add, Scale, Multiply, Project, Select}
use Rattle.words.specs.declared.gate.Pair.{Pair}
use Rattle.words.specs.declared.gate.Projection.{Projection}
use Rattle.counts.specs.declared.recipe.Images.TheVariants.{File}
use Rattle.counts.specs.Recipe.{image_of}
use Rattle.pads.specs.Pad.{Pad}
use Rattle.pair.specs.Key.{Keys, external_of, mask_of, value_for}
use Rattle.pair.specs.Half.{Half, half_key, half_rows, open_half}

-- ---- garbling

-- a circuit file, and what is looked up: the moduli and zero keys of lower wires, and the offset of each modulus
module _ (file : List ℕ) (modulus_of : ℕ → ℕ) (offset_of : ℕ → List ℕ) (zero_of : ℕ → List ℕ) where
  abbrev pub keys_of : ℕ → Keys
  keys_of a = record { modulus = modulus_of a; zero = zero_of a; offset = offset_of (modulus_of a) }

  -- a projection to modulus p, by its table T: T(v)·D, under a's keys
  abbrev pub table_half : ℕ → Projection → Half
  table_half p g =
      record {
        component = 0;
        under = keys_of g.a;
        modulus = p;
        factor = λ e. image_of file (File g.table) p (value_for (keys_of g.a) e);
        vector = offset_of p;
      }

  -- a product: "the first maps a's value v to −m_b·v under a's keys"
  abbrev pub first_half : ℕ → Pair → Half
  first_half p g =
      record {
        component = 0;
        under = keys_of g.a;
        modulus = p;
        factor = λ e. sub p 0 (mul p (mask_of (keys_of g.b)) (value_for (keys_of g.a) e));
        vector = offset_of p;
      }

  -- "the second under b's key for β has message k'' − β·k_a", β the external value
  abbrev pub second_half : ℕ → Pair → Half
  second_half p g = record { component = 1; under = keys_of g.b; modulus = p; factor = λ β. sub p 0 β; vector = zero_of g.a }

  -- wire w, of modulus p
  module _ (pad : Pad) (K w p : ℕ) where
    -- its zero key, where `drawn` is that of an input. A select is refused; its clauses only make the definitions whole
    unfoldable pub zero_by : List ℕ → Gate → List ℕ
    zero_by drawn (Input g) = drawn
    zero_by drawn (Add g) = add_v p (zero_of g.a) (zero_of g.b)
    zero_by drawn (Scale g) = mul_v p g.constant (zero_of g.a)
    zero_by drawn (Multiply g) = add_v p (half_key pad K w (first_half p g)) (half_key pad K w (second_half p g))
    zero_by drawn (Project g) = half_key pad K w (table_half p g)
    zero_by drawn (Select g) = replicate K 0

    -- its rows: those of its halves, one after another
    unfoldable pub rows_by : Gate → List ℕ
    rows_by (Input g) = []
    rows_by (Add g) = []
    rows_by (Scale g) = []
    rows_by (Multiply g) = half_rows pad K w (first_half p g) ++ half_rows pad K w (second_half p g)
    rows_by (Project g) = half_rows pad K w (table_half p g)
    rows_by (Select g) = []

-- ---- opening

-- wire w, of modulus p, from the gate's own rows
module _ (pad : Pad) (K w p : ℕ) (rows : List ℕ) where
  -- a product: the first half under a's key, the second, whose p − 1 rows stand behind the first's, under b's; "the opener adds β times a's key"
  unfoldable pub open_product : List ℕ → List ℕ → List ℕ
  open_product a b =
      add_v p
      (add_v p (open_half pad K w 0 p p (part rows 0 ((p - 1) * K)) a) (open_half pad K w 1 p p (part rows ((p - 1) * K) ((p - 1) * K)) b))
      (mul_v p (external_of b) a)

-- any gate, from the moduli and opened keys of lower wires too, and from the key that is given of an input
module _ (pad : Pad) (K w p : ℕ) (modulus_of : ℕ → ℕ) (rows : List ℕ) (given : List ℕ) (key_at : ℕ → List ℕ) where
  unfoldable pub open_by : Gate → List ℕ
  open_by (Input g) = given
  open_by (Add g) = add_v p (key_at g.a) (key_at g.b)
  open_by (Scale g) = mul_v p g.constant (key_at g.a)
  open_by (Multiply g) = open_product pad K w p rows (key_at g.a) (key_at g.b)
  open_by (Project g) = open_half pad K w 0 p (modulus_of g.a) rows (key_at g.a)
  open_by (Select g) = replicate K 0
