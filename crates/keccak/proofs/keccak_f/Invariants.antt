-- `keccak::keccak_f` meets its contract. The loop's invariant: after i turns the state has gone through the rounds 0 to i − 1.
-- Assumes nothing.
use mathlib.Core.Path.{◌≡◌}
use Rattle.keccak.specs.Keccak.{rounds}
use Rattle.keccak.proofs.keccak_f.Given as goal

abbrev pub invariant-loop-rc : goal.invariant-loop-rc
invariant-loop-rc l = l.a ≡ rounds l.rc-index l.initial.a
