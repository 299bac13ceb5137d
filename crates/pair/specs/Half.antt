-- Document 02, order 8: "external values 1 to p − 1; the output's zero key is chosen so that the missing row 0 would be all zero." A projection is one such
-- half and a product the sum of two, "components 0 and 1, reduced likewise". In all of them the message of external value e is the zero key plus a
-- factor of e times a vector.
-- Assumes nothing.
use Rattle.std.specs.Prelude.{cond, List, ℕ, suc, ◌-◌, eqb, replicate}
use Rattle.lists.specs.Blocks.{blocks, nth_piece}
use Rattle.residue.specs.Vector.{sub_v, key_v}
use Rattle.pads.specs.Pad.{Pad, pad_row, placed}
use Rattle.scheme.specs.Gate.{row}
use Rattle.pair.specs.Key.{Keys, external_of, key_for}

pub record Half : Type 0 where
  pub component : ℕ
  -- the wire under whose keys the rows are
  pub under : Keys
  -- the receiving modulus
  pub modulus : ℕ
  pub factor : ℕ → ℕ
  pub vector : List ℕ

-- row e among a half's rows, of K bytes each: row 0 is missing, and all zero
unfoldable pub row_for : ℕ → List ℕ → ℕ → List ℕ
row_for K rows e = cond (eqb e 0) (replicate K 0) (nth_piece rows K (e - 1))

-- key length K; w is the wire that the gate makes. "Only the garbler's keys exist, sender and receiver both 0": rows and pads of one party
module _ (pad : Pad) (K w : ℕ) where
  module _ (half : Half) where
    -- row e where k is the zero key: message plus pad, under the key for external value e
    unfoldable pub half_row : List ℕ → ℕ → List ℕ
    half_row k e =
        row pad 1 K w half.modulus half.under.modulus half.component (key_for half.under e)
        (key_v half.modulus k (half.factor e) half.vector)

    -- the zero key with which row 0 is all zero: what is left of row 0 without it, taken off
    unfoldable pub half_key : List ℕ
    half_key = sub_v half.modulus (replicate K 0) (half_row (replicate K 0) 0)

    -- the rows that are written, of external values 1 to p − 1
    unfoldable pub half_rows : List ℕ
    half_rows = blocks (half.under.modulus - 1) (λ i. half_row half_key (suc i))

  -- opening a half of receiving modulus p under a key of modulus q: the row of the key's external value, less the pad
  unfoldable pub open_half : ℕ → ℕ → ℕ → List ℕ → List ℕ → List ℕ
  open_half component p q rows key = sub_v p (row_for K rows (external_of key)) (pad_row pad K p (placed q w component) key 1)
