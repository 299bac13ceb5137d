-- `plain::wire_values` meets its contract: a loop that adds a value a turn, each from those before it. Assumes nothing.
use Rattle.plain.specs.Ready.{Done}
use Rattle.plain.proofs.wires.wire_values.Given as goal

abbrev pub invariant-loop-w : goal.invariant-loop-w
invariant-loop-w l = Done l.file l.wire-items l.values l.w l.done
