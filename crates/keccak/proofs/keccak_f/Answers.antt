-- `keccak::keccak_f` meets its contract. The loop's invariant: after i turns the state has gone through the rounds 0 to i − 1.
-- Assumes nothing.
use mathlib.Core.Path.{◌≡◌, refl, ap, ap₂, ◌∙◌}
use mathlib.Core.List.{List}
use Prim.Native.Nat.{ℕ, ◌+◌, ◌<◌}
use native.Mathlib.Numerals.{add-one}
use native.Mathlib.Omega.{arith}
use lib.ListN.{get_or}
use Rattle.keccak.specs.Keccak.{round, rounds, keccak_f}
use Rattle.keccak.proofs.Tables.{constants, constant-at}
use Rattle.keccak.proofs.keccak_f.Goals as goal

-- one turn: the round whose constant stands at place i of the table
next : (i : ℕ) (a₀ a b : List ℕ) → i < 24 → a ≡ rounds i a₀ → b ≡ round (get_or constants i 0) a → b ≡ rounds (i + 1) a₀
unfolding rounds
next i a₀ a b h e f = rw add-one (f ∙ ap₂ round (constant-at i h) e)

pub loop-rc-init : goal.loop-rc-init
unfolding rounds
loop-rc-init c = refl

pub loop-rc-preserved : goal.loop-rc-preserved
loop-rc-preserved c = next c.loop-rc.rc-index c.args.state c.loop-rc.a c.round-b.result c.loop-rc-test.true c.loop-rc.invariant c.round-b.ensures

pub returns : goal.returns
unfolding keccak_f
returns c = c.loop-rc.invariant ∙ ap (λ (i : ℕ). rounds i c.args.state) (omega arith)
