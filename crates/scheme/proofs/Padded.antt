-- A row under its pads: how long it is, and that the pads come off again. Nothing is asked of a pad but its length.
-- Assumes nothing.
use mathlib.Core.Path.{◌≡◌, sym, ◌∙◌}
use mathlib.Core.List.{List}
use Prim.Native.Nat.{ℕ, ◌*◌, ◌<◌}
use lib.ListN.{length}
use Rattle.residue.specs.Vector.{add_v, sub_v}
use Rattle.residue.proofs.Laws.{sub_v-add_v}
use Rattle.residue.proofs.Vectors.{add_v-length}
use Rattle.pads.specs.Pad.{Pad, Under, pad_row}
use Rattle.pads.proofs.Sizes.{pad_row-length}
use Rattle.scheme.specs.Drawn.{PadSize}
use Rattle.scheme.proofs.Messages.{Message}

module _ {pad : Pad} (pads : PadSize pad) (n K q : ℕ) (positive : 0 < q) (place : Under) (keys : List ℕ) where
  pad_row_size : length (pad_row pad K q place keys n) ≡ n * K
  pad_row_size = pad_row-length pad K q (λ input. pads.size q K input positive) place keys n

  module _ {xs : List ℕ} (m : Message q (n * K) xs) where
    pub padded-size : length (add_v q xs (pad_row pad K q place keys n)) ≡ n * K
    padded-size = add_v-length q xs _ (m.entries ∙ sym pad_row_size) ∙ m.entries

    pub unpadded_is : sub_v q (add_v q xs (pad_row pad K q place keys n)) (pad_row pad K q place keys n) ≡ xs
    unpadded_is = sub_v-add_v positive xs _ (m.entries ∙ sym pad_row_size) m.below
