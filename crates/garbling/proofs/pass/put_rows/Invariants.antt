use mathlib.Core.Path.{◌≡◌}
use Prim.Native.Nat.{◌*◌}
use Rattle.counts.specs.Counts.{rows_of}
use Rattle.pads.specs.Pad.{shake_pad}
use Rattle.scheme.specs.Contribution.{record_at}
use Rattle.scheme.specs.Draw.{drawn}
use Rattle.scheme.specs.Rows.{gate_rows}
use Rattle.lists.proofs.Steps.{Steps}
use Rattle.garbling.proofs.pass.put_rows.Given as goal

abbrev pub invariant-loop-w : goal.invariant-loop-w
invariant-loop-w l =
    (l.at ≡ record_at l.session.k l.wire-items l.w)
    × Steps l.initial.rows 0 l.w l.fn.circuit.made (λ v. rows_of l.wire-items v * (l.session.n * l.session.k))
    (gate_rows (shake_pad l.session.round) l.session.n l.session.k l.file l.wire-items (drawn l.session.n l.session.k l.wire-items l.contributions)) l.from l.rows
