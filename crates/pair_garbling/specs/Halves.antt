-- A half as the code makes it: its factors stand in a table, and its rows go on from the key of external value 0. Only inner contracts cite this.
-- Assumes nothing.
use Rattle.std.specs.Prelude.{◌≡◌, List, ℕ, suc, ◌-◌, ◌≤◌, ◌<◌, length, get_or, replicate}
use Rattle.lists.specs.Blocks.{blocks}
use Rattle.residue.specs.Residue.{sub, mul}
use Rattle.residue.specs.Vector.{sub_v, key_v}
use Rattle.counts.specs.declared.recipe.Images.TheVariants.{File}
use Rattle.counts.specs.Recipe.{image_of}
use Rattle.pads.specs.Pad.{shake_pad}
use Rattle.scheme.specs.Gate.{row}
use Rattle.pair.specs.Key.{Keys, value_for}
use Rattle.pair.specs.Half.{Half, half_key, half_rows}
use Rattle.pair_checks.specs.declared.half.HalfAt.{HalfAt}

-- key length in range, and moduli above 1
pub record Fits (at : HalfAt) : Type 0 where
  pub long : 1 ≤ at.k
  pub short : at.k ≤ 128
  pub under : 1 < at.under
  pub modulus : 1 < at.modulus

-- four vectors of K bytes each
pub record Vectors (K : ℕ) (k D v x : List ℕ) : Type 0 where
  pub zero : length k ≡ K
  pub offset : length D ≡ K
  pub vector : length v ≡ K
  pub work : length x ≡ K

-- message plus pad, under a key
abbrev pub row_under : HalfAt → List ℕ → List ℕ → List ℕ
row_under at keys message = row (shake_pad at.round) 1 at.k at.wire at.modulus at.under at.component keys message

-- from the key of external value 0 and the factor of 0
unfoldable pub key_under : HalfAt → List ℕ → ℕ → List ℕ → List ℕ
key_under at keys c vector =
    sub_v at.modulus (replicate at.k 0) (row_under at keys (key_v at.modulus (replicate at.k 0) c vector))

unfoldable pub rows_under : HalfAt → List ℕ → List ℕ → List ℕ → List ℕ → List ℕ → List ℕ
rows_under at factors start key offset vector =
    blocks (at.under - 1) (λ i. row_under at (key_v at.under start (suc i) offset) (key_v at.modulus key (get_or factors (suc i) 0) vector))

-- the half that is made, with these factors
abbrev pub half_of : HalfAt → (ℕ → ℕ) → List ℕ → List ℕ → List ℕ → Half
half_of at factor zero offset vector =
    record {
      component = at.component;
      under = record { modulus = at.under; zero = zero; offset = offset };
      modulus = at.modulus;
      factor = factor;
      vector = vector;
    }

-- its zero key and its rows
unfoldable pub key_made : HalfAt → List ℕ → List ℕ → List ℕ → List ℕ → List ℕ
key_made at factors zero offset vector = half_key (shake_pad at.round) at.k at.wire (half_of at (λ e. get_or factors e 0) zero offset vector)

unfoldable pub rows_made : HalfAt → List ℕ → List ℕ → List ℕ → List ℕ → List ℕ
rows_made at factors zero offset vector = half_rows (shake_pad at.round) at.k at.wire (half_of at (λ e. get_or factors e 0) zero offset vector)

-- ---- the halves of gates, each as `pair` has it

-- a half's zero key and its rows, for the wire at hand
abbrev pub key_by : HalfAt → Half → List ℕ
key_by at half = half_key (shake_pad at.round) at.k at.wire half

abbrev pub rows_by : HalfAt → Half → List ℕ
rows_by at half = half_rows (shake_pad at.round) at.k at.wire half

abbrev pub keys_under : HalfAt → List ℕ → List ℕ → Keys
keys_under at zero offset = record { modulus = at.under; zero = zero; offset = offset }

-- a projection's
abbrev pub table_of : HalfAt → List ℕ → ℕ → List ℕ → List ℕ → List ℕ → Half
table_of at file table zero offset vector =
    half_of at (λ e. image_of file (File table) at.modulus (value_for (keys_under at zero offset) e)) zero offset vector

-- a product's first, where the other wire has this mask, and its second
abbrev pub first_of : HalfAt → ℕ → List ℕ → List ℕ → List ℕ → Half
first_of at mask zero offset vector = half_of at (λ e. sub at.modulus 0 (mul at.modulus mask (value_for (keys_under at zero offset) e))) zero offset vector

abbrev pub second_of : HalfAt → List ℕ → List ℕ → List ℕ → Half
second_of at zero offset vector = half_of at (λ e. sub at.modulus 0 e) zero offset vector
