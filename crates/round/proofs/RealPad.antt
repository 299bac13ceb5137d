-- The claim for the pad of a round, SHAKE256: its pad has K entries, whatever the sponge takes.
-- Assumes nothing.
use mathlib.Core.Path.{◌≡◌}
use mathlib.Core.List.{List}
use Prim.Native.Nat.{ℕ, ◌<◌}
use lib.ListN.{length}
use Rattle.meter.specs.Meter.{Charge}
use Rattle.pads.specs.Pad.{shake_pad}
use Rattle.pads.proofs.Sizes.{shake_pad-length}
use Rattle.round.specs.Round.{Lent}
use Rattle.round.specs.Claim.{Conditions, Promise}
use Rattle.round.proofs.Claim.{claim}

pub shake_pad-size : (round q K : ℕ) (input : List ℕ) → 0 < q → length (shake_pad round q K input) ≡ K
shake_pad-size round q K input _ = shake_pad-length round q K input

pub shake_claim : (round : ℕ) (file : List ℕ) (n K : ℕ) (contributions values : List ℕ) (meter : Charge) (lent : Lent)
    → Conditions file n K contributions values meter lent
    → Promise (shake_pad round) file n K contributions values meter lent
shake_claim round = claim (shake_pad round) (shake_pad-size round)
