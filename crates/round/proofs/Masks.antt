-- The masks that garbling writes: one byte per input, and for each party a sheet with one per output, of which only those that it may read count.
-- Assumes nothing.
use mathlib.Core.Path.{◌≡◌, refl, ap, ◌∙◌}
use mathlib.Core.Bool.{Bool, true, false, cond}
use mathlib.Core.List.{List}
use Prim.Native.Nat.{ℕ, ◌<◌}
use lib.ListN.{length, get_or}
use Rattle.lists.specs.Blocks.{nth_piece}
use Rattle.lists.proofs.Blocks.{length-tab, get_or-tab, tab_ext, part_blocks_same}
use Rattle.words.specs.declared.gate.Wire.{Wire}
use Rattle.circuit.specs.Wires.{inputs_in}
use Rattle.circuit.specs.Named.{readable}
use Rattle.scheme.specs.Draw.{Draw}
use Rattle.scheme.specs.Zero.{mask}
use Rattle.scheme.specs.Rows.{input_masks, output_sheet, output_sheets}

-- what is the same where it may be read is the same with anything in the place of the rest
pub same-readable : (may : Bool) (rest : ℕ) {x y : ℕ} → (may ≡ true → x ≡ y) → cond may x rest ≡ cond may y rest
same-readable true rest e = e refl
same-readable false rest e = refl

pub input-mask : (wires : List Wire) (draw : Draw) (w : ℕ) → w < inputs_in wires → get_or (input_masks wires draw) w 0 ≡ mask wires draw w
unfolding input_masks
input-mask wires draw w h = get_or-tab (inputs_in wires) (mask wires draw) w 0 h

module _ (wires : List Wire) (outputs named : List ℕ) where
  module _ (draw : Draw) where
    pub sheet-size : (party : ℕ) → length (output_sheet wires outputs named draw party) ≡ length outputs
    unfolding output_sheet
    sheet-size party = length-tab (length outputs) _

    pub sheet-mask : (party i : ℕ) → i < length outputs → readable named party i ≡ true
        → get_or (output_sheet wires outputs named draw party) i 0 ≡ mask wires draw (get_or outputs i 0)
    unfolding output_sheet
    sheet-mask party i h e = get_or-tab (length outputs) _ i 0 h ∙ ap (λ (may : Bool). cond may (mask wires draw (get_or outputs i 0)) 255) e

    -- the sheets lie one after another
    pub nth_sheet : (n party : ℕ) → party < n
        → nth_piece (output_sheets wires outputs named draw n) (length outputs) party ≡ output_sheet wires outputs named draw party
    unfolding output_sheets
    nth_sheet n party h = part_blocks_same n (length outputs) (output_sheet wires outputs named draw) (λ each _. sheet-size each) party h

  pub sheets_agree : (one other : Draw) (party : ℕ)
      → ((i : ℕ) → i < length outputs → readable named party i ≡ true → mask wires one (get_or outputs i 0) ≡ mask wires other (get_or outputs i 0))
      → output_sheet wires outputs named one party ≡ output_sheet wires outputs named other party
  unfolding output_sheet
  sheets_agree one other party same = tab_ext (length outputs) _ _ (λ i h. same-readable (readable named party i) 255 (same i h))
