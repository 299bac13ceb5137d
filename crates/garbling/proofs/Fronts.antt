-- A vector of n·K bytes at the front of an array of 1,024: how it comes about when the front is lent. And that pairs of equal parts are equal.
-- Assumes nothing.
use mathlib.Core.Path.{◌≡◌, ap₂, ◌∙◌}
use mathlib.Core.List.{List, ◌++◌}
use Prim.Native.Nat.{ℕ, ◌*◌}
use native.Mathlib.Omega.{arith}
use lib.ListN.{length, take, drop}
use Rattle.lists.proofs.Wrote.{Wrote, wrote_front, wrote_take}
use Rattle.session.specs.Sizes.{Sizes}
use Rattle.contribution.proofs.Sizes.{vector-fits}
use Rattle.scheme.specs.Keyed.{Keyed}
use Rattle.garbling.specs.declared.turn.Turn.{Turn}
use Rattle.garbling.specs.Source.{Front}

-- the front of an array, lent and filled
pub front-made : (turn : Turn) → Sizes turn.n turn.k → (out : List ℕ) {ys xs : List ℕ} → length out ≡ 1024 → length ys ≡ length (take (turn.n * turn.k) out) → ys ≡ xs
    → Front turn xs (ys ++ drop (turn.n * turn.k) out)
front-made turn s out {ys} {xs} l e z =
    let q : Wrote out 0 xs (turn.n * turn.k) (ys ++ drop (turn.n * turn.k) out) = wrote_front out (turn.n * turn.k) (omega (arith, vector-fits s)) e z in
    record { kept = q.kept ∙ l; front = wrote_take q }

pub pair_is : {k k' : List ℕ} {m m' : ℕ} → k ≡ k' → m ≡ m' → ◌≡◌ {A = Keyed} (record { key = k; mask = m }) (record { key = k'; mask = m' })
pair_is e f = ap₂ (λ (x : List ℕ) (y : ℕ). record { key = x; mask = y }) e f
