-- Every byte of a wire's rows is below the wire's modulus, whatever they are made of.
-- Assumes nothing.
use mathlib.Core.List.{List, []}
use Prim.Native.Nat.{ℕ, ◌<◌}
use native.Mathlib.Nat.{not-suc-le-zero}
use Rattle.residue.specs.Vector.{AllBelow}
use Rattle.residue.proofs.Vectors.{add_v-below}
use Rattle.counts.specs.declared.recipe.Recipe.{Recipe}
use Rattle.counts.specs.declared.recipe.Recipe.TheVariants.{Entered, Sum, Multiple, Table, Product, Choice}
use Rattle.pads.specs.Pad.{Pad}
use Rattle.scheme.specs.Gate.{row, table_row, table_rows, product_row₀, product_row₁, product_rows, chooser_row₀, chooser_row₁, corrector_row₀, corrector_row₁, choice_rows, Source, rows_from}
use Rattle.scheme.proofs.EachBelow.{below_append, below-blocks}

none_below : (p : ℕ) → AllBelow p []
none_below p = record { entry = λ i h. absurd (not-suc-le-zero h) }

module _ (pad : Pad) (n K w p : ℕ) (h : 0 < p) where
  row_below : (q component : ℕ) (keys message : List ℕ) → AllBelow p (row pad n K w p q component keys message)
  unfolding row
  row_below q component keys message = add_v-below h _ _

  pub rows-below : (file : List ℕ) (from : Source) (r : Recipe) → AllBelow p (rows_from pad n K w p file from r)
  unfolding rows_from table_rows table_row product_rows product_row₀ product_row₁ choice_rows chooser_row₀ chooser_row₁ corrector_row₀ corrector_row₁
  rows-below file from Entered = none_below _
  rows-below file from (Sum g) = none_below _
  rows-below file from (Multiple g) = none_below _
  rows-below file from (Table g) = below-blocks _ _ _ (λ α _. row_below _ _ _ _)
  rows-below file from (Product g) =
      below_append (below-blocks _ _ _ (λ α _. row_below _ _ _ _)) (below-blocks _ _ _ (λ β _. row_below _ _ _ _))
  rows-below file from (Choice g) =
      below_append (below_append (row_below _ _ _ _) (row_below _ _ _ _))
      (below_append (below-blocks _ _ _ (λ α _. row_below _ _ _ _)) (below-blocks _ _ _ (λ α _. row_below _ _ _ _)))
