-- `contribution::first_in_offsets` meets its contract: runs sized by the marks. Assumes nothing.
use mathlib.Core.Path.{ap, ◌∙◌}
use mathlib.Core.List.{List}
use Prim.Native.Nat.{ℕ, ◌*◌}
use lib.ListN.{get_or}
use Rattle.std.proofs.Common.{rules}
use Rattle.counts.specs.Moduli.{used}
use Rattle.circuit.specs.Held.{wires_in}
use Rattle.contribution.specs.Large.{first_large}
use Rattle.contribution.proofs.Wired.{marks_room, marks_runs}
use Rattle.contribution.proofs.contributed.first_in_offsets.Goals as goal

pub first_in_runs-requires-clause-runs_are : goal.first_in_runs-requires-clause-runs_are
first_in_runs-requires-clause-runs_are c = (λ p. c.args.k * get_or c.marks-marks.result p 0, λ p. p, record { each = λ i run h p. (search rules, search rules); long = marks_room c.args.k (used (wires_in c.args.circuit)) c.marks-marks.ensures c.requires.bytes_len })

pub returns : goal.returns
returns c = c.first_in_runs.ensures (λ p. c.args.k * get_or c.marks-marks.result p 0) (λ p. p) (record { each = λ i run h p. (search rules, search rules); long = marks_room c.args.k (used (wires_in c.args.circuit)) c.marks-marks.ensures c.requires.bytes_len }) ∙ ap (λ (ms : List ℕ). first_large c.args.bytes.now (λ i. get_or ms i 0)) (marks_runs c.args.k (used (wires_in c.args.circuit)) c.marks-marks.ensures)
