-- Document 01, "The gates": the garbled rows of one gate, from the keys, masks and offsets that they are made of. An entry is message plus the pads of
-- all n senders; a row is the entries of all receivers, one after another. The code that garbles and the circuit's rows cite these same definitions.
-- Assumes nothing.
use Rattle.std.specs.Prelude.{List, [], ◌++◌, ℕ}
use Rattle.lists.specs.Blocks.{blocks}
use Rattle.residue.specs.Residue.{sub}
use Rattle.residue.specs.Vector.{add_v, key_v}
use Rattle.counts.specs.declared.recipe.Recipe.{Recipe}
use Rattle.counts.specs.declared.recipe.Recipe.TheVariants.{Entered, Sum, Multiple, Table, Product, Choice}
use Rattle.counts.specs.Recipe.{image_of}
use Rattle.pads.specs.Pad.{Pad, pad_row, placed}
use Rattle.scheme.specs.Keyed.{Keyed, less}
use Rattle.scheme.specs.Message.{project_message, product_message₀, product_message₁, chooser_message₀, chooser_message₁, corrector_message₀, corrector_message₁}

-- n parties, key length K; w is the wire that the gate makes
module _ (pad : Pad) (n K w : ℕ) where
  -- message plus pads, modulo p, under keys of modulus q
  unfoldable pub row : ℕ → ℕ → ℕ → List ℕ → List ℕ → List ℕ
  row p q component keys message = add_v p message (pad_row pad K p (placed q w component) keys n)

  -- project by a table, modulus q to p: q rows under a's keys, whose offsets are Dₐ; z is the record's, and D the offsets of p
  module _ (image : ℕ → ℕ) (q : ℕ) (a : Keyed) (Dₐ : List ℕ) (p : ℕ) (z : Keyed) (D : List ℕ) where
    unfoldable pub table_row : ℕ → List ℕ
    table_row α = row p q 0 (key_v q a.key α Dₐ) (project_message p D z.key z.mask (image (sub q α a.mask)))

    unfoldable pub table_rows : List ℕ
    table_rows = blocks q table_row

  -- multiply a by b: p rows of component 0 under a's keys, p rows of component 1 under b's; z is whole, and the second part is z less the first
  module _ (p : ℕ) (D : List ℕ) (a b z first : Keyed) where
    unfoldable pub product_row₀ : ℕ → List ℕ
    product_row₀ α = row p p 0 (key_v p a.key α D) (product_message₀ p D first.key first.mask a.mask b.mask α)

    unfoldable pub product_row₁ : ℕ → List ℕ
    product_row₁ β =
        row p p 1 (key_v p b.key β D) (product_message₁ p D (less p z first).key (less p z first).mask a.key a.mask β)

    unfoldable pub product_rows : List ℕ
    product_rows = blocks p product_row₀ ++ blocks p product_row₁

  -- select: the chooser's two rows under the bit's keys for 0 and 1, whose offsets are D₂; then p rows of each corrector under d's keys, d = b − a;
  -- z is h's, first and second are its first parts
  module _ (p : ℕ) (D D₂ : List ℕ) (bit d z first second : Keyed) where
    unfoldable pub chooser_row₀ : List ℕ
    chooser_row₀ = row p 2 0 (key_v 2 bit.key 0 D₂) (chooser_message₀ p D first.key first.mask)

    unfoldable pub chooser_row₁ : List ℕ
    chooser_row₁ = row p 2 0 (key_v 2 bit.key 1 D₂) (chooser_message₁ p D second.key second.mask d.key d.mask)

    unfoldable pub corrector_row₀ : ℕ → List ℕ
    corrector_row₀ α =
        row p p 1 (key_v p d.key α D) (corrector_message₀ p D (less p z first).key (less p z first).mask bit.mask d.mask α)

    unfoldable pub corrector_row₁ : ℕ → List ℕ
    corrector_row₁ α =
        row p p 2 (key_v p d.key α D) (corrector_message₁ p D (less p z second).key (less p z second).mask bit.mask d.mask α)

    unfoldable pub choice_rows : List ℕ
    choice_rows = (chooser_row₀ ++ chooser_row₁) ++ (blocks p corrector_row₀ ++ blocks p corrector_row₁)

-- what the rows of a gate are made of: the offsets of a modulus; the modulus, the zero keys and the mask of a lower wire; and what stands in the gate's
-- record: 0 the whole, 1 and 2 the first parts
pub record Source : Type 0 where
  pub offset : ℕ → List ℕ
  pub modulus : ℕ → ℕ
  pub wire : ℕ → Keyed
  pub drawn : ℕ → Keyed

-- the rows of wire w, of modulus p, by its recipe; the file has the projections' tables
module _ (pad : Pad) (n K w p : ℕ) (file : List ℕ) (from : Source) where
  unfoldable pub rows_from : Recipe → List ℕ
  rows_from Entered = []
  rows_from (Sum g) = []
  rows_from (Multiple g) = []
  rows_from (Table g) =
      let q : ℕ = from.modulus g.a in
      table_rows pad n K w (image_of file g.images p) q (from.wire g.a) (from.offset q) p (from.drawn 0) (from.offset p)
  rows_from (Product g) =
      product_rows pad n K w p (from.offset p) (from.wire g.a) (from.wire g.b) (from.drawn 0) (from.drawn 1)
  rows_from (Choice g) =
      choice_rows pad n K w p (from.offset p) (from.offset 2) (from.wire g.bit) (less p (from.wire g.b) (from.wire g.a))
      (from.drawn 0) (from.drawn 1) (from.drawn 2)
