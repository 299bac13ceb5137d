-- The sheets of output masks: what the loop that writes one holds to, and that they are the scheme's.
-- Assumes nothing.
use mathlib.Core.Path.{◌≡◌, sym, ap, ap₂, ◌∙◌}
use mathlib.Core.Bool.{Bool, true, false, cond}
use mathlib.Core.List.{List}
use Prim.Native.Nat.{ℕ, ◌+◌, ◌*◌, ◌≤◌, ◌<◌}
use native.Mathlib.Omega.{arith}
use lib.ListN.{length, get_or, set}
use lib.Seq.{get_or-take}
use Rattle.lists.specs.Blocks.{blocks}
use Rattle.lists.proofs.Blocks.{length-tab, get_or-tab, tab_ext, blocks_ext}
use Rattle.lists.proofs.Filled.{Filled, filled_start, filled_step}
use Rattle.circuit.specs.declared.Circuit.{Circuit}
use Rattle.circuit.specs.Held.{wires_in, outputs_in, named_in}
use Rattle.circuit.specs.Named.{may_read, readable}
use Rattle.session.proofs.Circuits.{made-is, given_is}
use Rattle.scheme.specs.Zero.{mask}
use Rattle.scheme.specs.Rows.{output_sheet, output_sheets}
use Rattle.zero.specs.Ready.{Contributed, Masks, drawn_in}
use Rattle.zero.proofs.Made.{masks-at, masks-kept}
use Rattle.garbling.specs.Sheets.{sheet_here, Hands}

-- ---- one byte of a sheet

module _ {read may : Bool} (mask : ℕ) (e : read ≡ may) where
  pub shown_mask : read ≡ true → mask ≡ cond may mask 255
  shown_mask t = ap (λ (b : Bool). cond b mask 255) (sym t ∙ e)

  pub shown_none : read ≡ false → 255 ≡ cond may mask 255
  shown_none t = ap (λ (b : Bool). cond b mask 255) (sym t ∙ e)

-- ---- one sheet, output by output

module _ {circuit : Circuit} {masks : List ℕ} (hands : Hands circuit masks) (party : ℕ) where
  abbrev sheet : List ℕ
  sheet = sheet_here circuit masks party

  abbrev look : ℕ → ℕ
  look i = cond (readable (named_in circuit) party i) (get_or masks (get_or (outputs_in circuit) i 0) 0) 255

  sheet_length : length sheet ≡ circuit.given
  unfolding sheet_here
  sheet_length = length-tab (length (outputs_in circuit)) look ∙ given_is hands.held

  pub sheet_start : {out₀ : List ℕ} → length out₀ ≡ circuit.given → Filled out₀ 0 circuit.given (sheet_here circuit masks party) out₀
  sheet_start e = filled_start sheet_length (omega arith)

  pub sheet-step : {out₀ out : List ℕ} {i at v : ℕ} → Filled out₀ i circuit.given (sheet_here circuit masks party) out → i < circuit.given
      → at ≡ get_or circuit.outputs i 0 → v ≡ cond (may_read (get_or circuit.named i 0) party) (get_or masks at 0) 255
      → Filled out₀ (i + 1) circuit.given (sheet_here circuit masks party) (set out i v)
  unfolding sheet_here
  sheet-step {out₀} {out} {i} {at} {v} r h e f =
      filled_step r h
      (get_or-tab (length (outputs_in circuit)) look i 0 (omega (arith, given_is hands.held))
      ∙ ap₂ (λ (x y : ℕ). cond (may_read x party) (get_or masks y 0) 255) (get_or-take circuit.given circuit.named i 0 h)
      (get_or-take circuit.given circuit.outputs i 0 h ∙ sym e)
      ∙ sym f)

pub output_held : {circuit : Circuit} {masks : List ℕ} {i at : ℕ} → Hands circuit masks → i < circuit.given → at ≡ get_or circuit.outputs i 0 → at < length masks
output_held {i = i} hands h e = rw e (hands.made i h)

-- ---- all sheets

module _ {file : List ℕ} {circuit : Circuit} {n K size : ℕ} {contributions masks : List ℕ} (r : Contributed file circuit n K size contributions)
    (m : Masks circuit n K contributions masks) where
  pub sheets_hand : Hands circuit masks
  sheets_hand =
      record {
        held = r.held;
        made =
            λ i l.
            omega
            (arith, r.held.room.made, masks-kept r m, made-is r.held, get_or-take circuit.given circuit.outputs i 0 l, r.accepted.outputs_made i (omega (arith, given_is r.held)));
      }

  pub sheets_room : {bytes : ℕ} → bytes ≡ n * length (outputs_in circuit) → (n ≤ 8) × (bytes ≡ n * circuit.given)
  sheets_room e = (r.sizes.parties, e ∙ ap (λ (g : ℕ). n * g) (given_is r.held))

  sheet_is : (party : ℕ)
      → sheet_here circuit masks party ≡ output_sheet (wires_in circuit) (outputs_in circuit) (named_in circuit) (drawn_in circuit n K contributions) party
  unfolding sheet_here output_sheet
  sheet_is party =
      tab_ext (length (outputs_in circuit)) (λ i. cond (readable (named_in circuit) party i) (get_or masks (get_or (outputs_in circuit) i 0) 0) 255)
      (λ i. cond (readable (named_in circuit) party i) (mask (wires_in circuit) (drawn_in circuit n K contributions) (get_or (outputs_in circuit) i 0)) 255)
      (λ i l.
      ap (λ (x : ℕ). cond (readable (named_in circuit) party i) x 255)
      (masks-at r m (get_or (outputs_in circuit) i 0) (omega (arith, made-is r.held, r.accepted.outputs_made i l))))

  pub sheets_are : blocks n (sheet_here circuit masks) ≡ output_sheets (wires_in circuit) (outputs_in circuit) (named_in circuit) (drawn_in circuit n K contributions) n
  unfolding output_sheets
  sheets_are =
      blocks_ext n (sheet_here circuit masks) (output_sheet (wires_in circuit) (outputs_in circuit) (named_in circuit) (drawn_in circuit n K contributions))
      (λ party l. sheet_is party)
