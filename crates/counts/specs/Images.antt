-- What a table's images rest on.
-- Assumes nothing.
use Rattle.std.specs.Prelude.{List, ℕ, ◌+◌, ◌*◌, ◌<◌, length}
use Rattle.counts.specs.declared.recipe.Images.{Images}
use Rattle.counts.specs.declared.recipe.Images.TheVariants.{File, Squares}
use Rattle.counts.specs.Recipe.{image_of}

-- the image of v can be had: it stands in the file, or is computed
pub data ImageHeld (file : List ℕ) (v : ℕ) : Images → Type 0 where
  in_file : {table : ℕ} → 4 * (table + v) < length file → ImageHeld file v (File table)
  computed : ImageHeld file v Squares

-- the images of all values below p can be had, and are below q
pub record ImagesFit (file : List ℕ) (images : Images) (p q : ℕ) : Type 0 where
  pub held : (v : ℕ) → v < p → ImageHeld file v images
  pub below : (v : ℕ) → v < p → image_of file images q v < q
