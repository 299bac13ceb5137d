-- The rows of a wire by its gate, in a circuit of the code and in the list that it stands for.
-- Assumes nothing.
use mathlib.Core.Path.{◌≡◌, refl, sym, ap, ◌∙◌}
use mathlib.Core.List.{List, ◌++◌}
use Prim.Native.Nat.{ℕ, ◌-◌, ◌*◌, ◌<◌}
use lib.ListN.{take, get_or, replicate}
use Rattle.words.specs.declared.gate.Gate.{Gate}
use Rattle.words.specs.declared.gate.Gate.TheVariants.{Input, Add, Scale, Multiply, Project, Select}
use Rattle.words.specs.declared.gate.Wire.{Wire}
use Rattle.circuit.specs.declared.Circuit.{Circuit}
use Rattle.circuit.specs.Wires.{wire_at, modulus_at, moduli_of}
use Rattle.circuit.specs.Held.{wires_in, Room}
use Rattle.counts.proofs.Wires.{wire-at, padded-modulus}
use Rattle.contribution.specs.declared.run.Run.{Run}
use Rattle.contribution.proofs.Wired.{modulus_is}
use Rattle.pair.specs.Count.{pair_rows_by, pair_rows_of}

-- a projection's rows go by one modulus
rows_same : (gate : Gate) (f g : ℕ → ℕ) (p : ℕ) → ((a : ℕ) → f a ≡ g a) → pair_rows_by gate f p ≡ pair_rows_by gate g p
rows_same (Input g) f h p e = refl
rows_same (Add g) f h p e = refl
rows_same (Scale g) f h p e = refl
rows_same (Multiply g) f h p e = refl
rows_same (Project g) f h p e = ap (λ (q : ℕ). q - 1) (e g.a)
rows_same (Select g) f h p e = refl

-- the table of moduli has zeros behind the wires
pub pair_rows_here : (wires : List Wire) (w n : ℕ) {table : List ℕ} → table ≡ moduli_of wires ++ replicate n 0
    → pair_rows_by (wire_at wires w).gate (λ a. get_or table a 0) (modulus_at wires w) ≡ pair_rows_of wires w
pair_rows_here wires w n {table} e =
    rows_same (wire_at wires w).gate (λ a. get_or table a 0) (modulus_at wires) (modulus_at wires w)
    (λ a. ap (λ (l : List ℕ). get_or l a 0) e ∙ padded-modulus wires n a)

pub pair_rows_at : (wires : List Wire) (made w n : ℕ) (table : List ℕ) → w < made → table ≡ moduli_of (take made wires) ++ replicate n 0
    → pair_rows_by (wire_at wires w).gate (λ a. get_or table a 0) (modulus_at wires w) ≡ pair_rows_of (take made wires) w
pair_rows_at wires made w n table h e =
    ap (λ (wire : Wire). pair_rows_by wire.gate (λ a. get_or table a 0) wire.modulus) (sym (wire-at wires made w h))
    ∙ pair_rows_here (take made wires) w n e

-- run w of the rows, by what the code looks up
pub rows_run : (circuit : Circuit) → Room circuit → {w : ℕ} → w < circuit.made → (run : Run) → run.modulus ≡ modulus_at circuit.wires w
    → {table : List ℕ} → table ≡ moduli_of (wires_in circuit) ++ replicate (1024 - circuit.made) 0 → (width : ℕ)
    → run.bytes ≡ pair_rows_by (wire_at circuit.wires w).gate (λ a. get_or table a 0) (modulus_at circuit.wires w) * width
    → (run.bytes ≡ pair_rows_of (wires_in circuit) w * width) × (run.modulus ≡ modulus_at (wires_in circuit) w)
rows_run circuit room {w} h run m {table} t width e = (
  e ∙ ap (λ (n : ℕ). n * width) (pair_rows_at circuit.wires circuit.made w (1024 - circuit.made) table h t),
  m ∙ modulus_is circuit room h,
)
