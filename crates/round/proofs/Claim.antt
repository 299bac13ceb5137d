-- Demand 3: under its conditions every call of a round accepts, and every party decodes the plain circuit's outputs that it may read.
-- Assumes nothing.
use mathlib.Core.Path.{◌≡◌, ap, ◌∙◌}
use mathlib.Core.List.{List}
use Prim.Native.Nat.{ℕ, ◌*◌, ◌<◌}
use lib.ListN.{length, get_or}
use Rattle.meter.specs.Meter.{Charge}
use Rattle.lists.specs.Blocks.{nth_piece}
use Rattle.pads.specs.Pad.{Pad}
use Rattle.round.specs.Round.{Lent}
use Rattle.round.specs.Claim.{Conditions, Delivered, Promise}
use Rattle.round.proofs.Start.{Start}
use Rattle.round.proofs.Begun.{begun}
use Rattle.round.proofs.Garbled.{garbles}
use Rattle.round.proofs.External.{has-externals}
use Rattle.round.proofs.Keys.{has-keys}
use Rattle.round.proofs.Opens.{opens, opened-external, opened-key}
use Rattle.round.proofs.Decoded.{evaluates, plain-decoded, decodes, decoded}

promise : {pad : Pad} {file : List ℕ} {n K : ℕ} {contributions values : List ℕ} {meter : Charge} {lent : Lent}
    → Start pad file n K contributions values meter lent → Promise pad file n K contributions values meter lent
promise start = record {
  garbles = garbles start;
  has_externals = has-externals start;
  has_keys = has-keys start;
  opens = opens start;
  decodes = decodes start;
  evaluates = evaluates start;
  delivers = record {
    keys = λ party w each h made l. opened-key start party h w each made l;
    externals = λ party w h made. opened-external start party h w made;
    decoded = decoded start;
    plain_decoded = plain-decoded start;
  };
}

-- for any pad of K entries
pub claim : (pad : Pad) → ((q K : ℕ) (input : List ℕ) → 0 < q → length (pad q K input) ≡ K)
    → (file : List ℕ) (n K : ℕ) (contributions values : List ℕ) (meter : Charge) (lent : Lent)
    → Conditions file n K contributions values meter lent
    → Promise pad file n K contributions values meter lent
claim pad size file n K contributions values meter lent conditions = promise (begun (record { size = size }) conditions)

-- what is delivered, by another name for each party's part
pub delivered_as : {file : List ℕ} {n K : ℕ} {contributions values : List ℕ} {wire_keys wire_externals figures keys externals results : ℕ → List ℕ}
    {plain outputs : List ℕ}
    → ((party : ℕ) → party < n → keys party ≡ wire_keys party)
    → ((party : ℕ) → party < n → externals party ≡ wire_externals party)
    → ((party : ℕ) → party < n → results party ≡ figures party)
    → outputs ≡ plain
    → Delivered file n K contributions values wire_keys wire_externals figures plain
    → Delivered file n K contributions values keys externals results outputs
delivered_as {n = n} {K = K} k e f p promised = record {
  keys = λ party w each h made l.
      ap (λ (xs : List ℕ). nth_piece (nth_piece xs (n * K) w) K each) (k party h) ∙ promised.keys party w each h made l;
  externals = λ party w h made. ap (λ (xs : List ℕ). get_or xs w 0) (e party h) ∙ promised.externals party w h made;
  decoded = λ party h. f party h ∙ promised.decoded party h;
  plain_decoded = p ∙ promised.plain_decoded;
}
