-- `contribution::first_record` meets its contract: no record stands before it. Assumes nothing.
use mathlib.Core.Path.{sym, ap, ◌∙◌}
use Prim.Native.Nat.{ℕ, ◌*◌}
use Rattle.circuit.specs.Held.{wires_in}
use Rattle.contribution.proofs.Cursor.{record_first}
use Rattle.contribution.proofs.places.first_record.Goals as goal

pub returns : goal.returns
returns c = ap (λ (m : ℕ). c.args.k * m) c.moduli_used.ensures.is ∙ sym (record_first c.args.k (wires_in c.args.circuit))
