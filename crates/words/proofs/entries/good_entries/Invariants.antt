-- `words::entries::good_entries` meets its contract: the entries passed are good, and one that is not ends the loop.
-- Assumes nothing.
use Rattle.words.specs.Entries.{GoodTo}
use Rattle.words.proofs.entries.good_entries.Given as goal

abbrev pub invariant-loop-i : goal.invariant-loop-i
invariant-loop-i l = GoodTo l.file l.from l.i l.modulus
