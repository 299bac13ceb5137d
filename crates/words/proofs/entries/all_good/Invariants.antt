-- `words::entries::all_good` meets its contract: while the flag holds, all entries passed are good.
-- Assumes nothing.
use mathlib.Core.Path.{◌≡◌}
use mathlib.Core.Bool.{true}
use Rattle.words.specs.Entries.{GoodTo}
use Rattle.words.proofs.entries.all_good.Given as goal

abbrev pub invariant-loop-i : goal.invariant-loop-i
invariant-loop-i l = l.good ≡ true → GoodTo l.file l.from l.i l.modulus
