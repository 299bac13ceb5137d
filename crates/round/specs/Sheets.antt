-- Order 9, over the calls' promises: what a party's sheet of output masks holds, and "two accepted garblings of one circuit, in which every output that a
-- party may read has equal masks, give that party the same sheet". Nothing else is known of the calls; the garblings may differ in their parties,
-- key length, round and in all that was drawn. So a sheet depends on nothing but the masks of the outputs that its party may read.
-- Assumes nothing.
use Rattle.std.specs.Prelude.{◌≡◌, true, cond, List, ℕ, ◌<◌, length, get_or}
use Rattle.lists.specs.Blocks.{tab}
use Rattle.words.specs.declared.gate.Wire.{Wire}
use Rattle.circuit.specs.File.{read_file}
use Rattle.circuit.specs.Named.{readable}
use Rattle.meter.specs.Meter.{Charge}
use Rattle.scheme.specs.Draw.{drawn}
use Rattle.scheme.specs.Zero.{mask}
use Rattle.calls.specs.Garble.{GarbleCall}
use Rattle.round.specs.Round.{sheet_of}

module _ (file : List ℕ) where
  abbrev wires : List Wire
  wires = (read_file file).wires

  abbrev outputs : List ℕ
  outputs = (read_file file).outputs

  abbrev named : List ℕ
  named = (read_file file).named

  -- an accepted garbling of this circuit: what the call was given, what it left, and that it met its promise and answered 0
  pub record Garbling : Type 0 where
    pub n : ℕ
    pub K : ℕ
    pub round : ℕ
    pub contributions : List ℕ
    pub rows₀ : List ℕ
    pub masks₀ : List ℕ
    pub outs₀ : List ℕ
    pub meter : Charge
    pub place : ℕ
    pub rows : List ℕ
    pub masks : List ℕ
    pub outs : List ℕ
    pub totals : List ℕ
    pub accepted : GarbleCall file n K round contributions rows₀ masks₀ outs₀ meter 0 place rows masks outs totals

  -- the sheet that it left for a party, and the mask of an output's wire, of what all parties drew
  abbrev pub sheet : Garbling → ℕ → List ℕ
  sheet garbling party = sheet_of outputs garbling.outs party

  abbrev pub output_mask : Garbling → ℕ → ℕ
  output_mask garbling i = mask wires (drawn garbling.n garbling.K wires garbling.contributions) (get_or outputs i 0)

  -- "a byte per output": the mask where the party may read it, "255 where that seat is not named"
  abbrev pub SheetIs : Type 0
  SheetIs =
      (garbling : Garbling) (party : ℕ) → party < garbling.n
      → sheet garbling party ≡ tab (length outputs) (λ i. cond (readable named party i) (output_mask garbling i) 255)

  -- the theorem
  abbrev pub SameSheet : Type 0
  SameSheet =
      (one other : Garbling) (party : ℕ) → party < one.n → party < other.n
      → ((i : ℕ) → i < length outputs → readable named party i ≡ true → output_mask one i ≡ output_mask other i)
      → sheet one party ≡ sheet other party
