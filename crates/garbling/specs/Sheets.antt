-- The masks that garbling hands out for the outputs: the scheme's sheets, for a circuit of the code, and a sheet as the code looks it up, out of the masks
-- of all wires.
-- Assumes nothing.
use Rattle.std.specs.Prelude.{cond, List, ℕ, ◌<◌, length, get_or}
use Rattle.lists.specs.Blocks.{tab}
use Rattle.circuit.specs.declared.Circuit.{Circuit}
use Rattle.circuit.specs.Held.{wires_in, outputs_in, named_in, Held}
use Rattle.circuit.specs.Named.{readable}
use Rattle.session.specs.declared.seats.Session.{Session}
use Rattle.scheme.specs.Rows.{output_sheets}
use Rattle.zero.specs.Ready.{drawn_in}

-- a sheet for each party of the session, of a circuit of the code
abbrev pub sheets_made : Session → Circuit → List ℕ → List ℕ
sheets_made session circuit contributions =
    output_sheets (wires_in circuit) (outputs_in circuit) (named_in circuit) (drawn_in circuit session.n session.k contributions) session.n

-- one party's sheet; only inner contracts cite this
unfoldable pub sheet_here : Circuit → List ℕ → ℕ → List ℕ
sheet_here circuit masks party =
    tab (length (outputs_in circuit)) (λ i. cond (readable (named_in circuit) party i) (get_or masks (get_or (outputs_in circuit) i 0) 0) 255)

-- what it rests on: each output is among the wires that have a mask
pub record Hands (circuit : Circuit) (masks : List ℕ) : Type 0 where
  pub held : Held circuit
  pub made : (i : ℕ) → i < circuit.given → get_or circuit.outputs i 0 < length masks
