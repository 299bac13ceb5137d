-- `rows::factors::image_of` meets its contract: the byte that is read is the image, or the product that is made.
-- Assumes nothing.
use mathlib.Core.Path.{sym, ap, ◌∙◌}
use Prim.Native.Nat.{ℕ, ◌+◌, ◌*◌}
use lib.ListN.{get_or}
use native.Mathlib.Omega.{arith}
use Rattle.plain.proofs.Arms.{image-byte}
use Rattle.counts.specs.Recipe.{image_of}
use Rattle.counts.specs.declared.recipe.Images.{Images}
use Rattle.counts.proofs.Recipes.{in-file}
use Rattle.rows.proofs.factors.image_of.Goals as goal

pub bounds-file-at : goal.bounds-file-at
unfolding image_of
bounds-file-at c = omega (arith, in-file c.in-File.is c.requires.0)

pub mul-requires : goal.mul-requires
unfolding image_of
mul-requires c = c.requires.1

pub returns-in-File : goal.returns-in-File
unfolding image_of
returns-in-File c = let a = c.args in
    ap (λ (x : ℕ). get_or a.file.now (4 * (c.in-File.table + x)) 0) c.from.ensures
    ∙ image-byte a.file.now (c.in-File.table + a.v) (c.type_inv.file (4 * (c.in-File.table + a.v))).fits
    ∙ ap (λ (i : Images). image_of a.file.now i a.q a.v) (sym c.in-File.is)

pub returns-in-Squares : goal.returns-in-Squares
unfolding image_of
returns-in-Squares c = let a = c.args in
    c.mul.ensures ∙ ap (λ (i : Images). image_of a.file.now i a.q a.v) (sym c.in-Squares.is)
