-- `row_calls::first_other` meets its contract: a search, input by input. Assumes nothing.
use mathlib.Core.Bool.{not}
use Prim.Native.Nat.{◌*◌, ◌+◌}
use Rattle.lists.specs.Blocks.{nth_piece}
use Rattle.lists.proofs.Search.{Looking}
use Rattle.search.specs.Search.{same}
use Rattle.row_calls.proofs.opened.first_other.Given as goal

abbrev pub invariant-loop-w : goal.invariant-loop-w
invariant-loop-w l = Looking l.inputs (λ v. not (same (nth_piece l.keys l.k (v * l.n + l.party)) (nth_piece l.own l.k v))) l.w
