-- Order 8's theorem: under its conditions every call of a round of two accepts, and document 01's decoding gives the plain circuit's outputs.
-- Assumes nothing.
use mathlib.Core.Path.{◌≡◌, sym, ap, ◌∙◌}
use mathlib.Core.List.{List}
use Prim.Native.Nat.{ℕ}
use lib.ListN.{get_or}
use Rattle.lists.specs.Blocks.{nth_piece}
use Rattle.meter.specs.Meter.{Charge}
use Rattle.pads.specs.Pad.{Pad, shake_pad}
use Rattle.pads.proofs.Sizes.{shake_pad-length}
use Rattle.scheme.specs.Drawn.{PadSize}
use Rattle.pair.specs.Key.{external_of}
use Rattle.pair_round.specs.Round.{Lent}
use Rattle.pair_round.specs.Claim.{Conditions, Delivered, Promise}
use Rattle.pair_round.proofs.Start.{Start, begun}
use Rattle.pair_round.proofs.Garbled.{garbles}
use Rattle.pair_round.proofs.Keys.{has-keys}
use Rattle.pair_round.proofs.Opened.{opens, opened-key, opened-component, opened-external}
use Rattle.pair_round.proofs.Decoded.{decodes, decoded, evaluates, plain-decoded}

promise : {pad : Pad} {file : List ℕ} {K : ℕ} {draw values : List ℕ} {meter : Charge} {lent : Lent}
    → Start pad file K draw values meter lent → Promise pad file K draw values meter lent
promise start =
    record {
      garbles = garbles start;
      has_keys = has-keys start;
      opens = opens start;
      decodes = decodes start;
      evaluates = evaluates start;
      delivers =
          record {
            keys = opened-key start;
            components = opened-component start;
            externals = opened-external start;
            decoded = decoded start;
            plain_decoded = plain-decoded start;
          };
    }

-- for any pad of K entries
pub claim : (pad : Pad) → PadSize pad → (file : List ℕ) (K : ℕ) (draw values : List ℕ) (meter : Charge) (lent : Lent)
    → Conditions file K draw values meter lent → Promise pad file K draw values meter lent
claim pad pads file K draw values meter lent conditions = promise (begun pads conditions)

-- for the pad of a round, SHAKE256, whatever the sponge takes
pub shake_claim : (round : ℕ) (file : List ℕ) (K : ℕ) (draw values : List ℕ) (meter : Charge) (lent : Lent)
    → Conditions file K draw values meter lent → Promise (shake_pad round) file K draw values meter lent
shake_claim round = claim (shake_pad round) (record { size = λ q K input _. shake_pad-length round q K input })

-- what is delivered, by other names for its parts
pub delivered_as : {file : List ℕ} {K : ℕ} {draw values : List ℕ} {pad : Pad} {wire_keys wire_externals figures plain keys externals results outputs : List ℕ}
    → keys ≡ wire_keys → externals ≡ wire_externals → results ≡ figures → outputs ≡ plain
    → Delivered file K draw values pad wire_keys wire_externals figures plain
    → Delivered file K draw values pad keys externals results outputs
delivered_as {K = K} k e f p promised =
    record {
      keys = λ w made. ap (λ (xs : List ℕ). nth_piece xs K w) k ∙ promised.keys w made;
      components = λ w made.
          ap (λ (xs : List ℕ). get_or xs w 0) e ∙ promised.components w made ∙ ap (λ (xs : List ℕ). external_of (nth_piece xs K w)) (sym k);
      externals = λ w made. ap (λ (xs : List ℕ). get_or xs w 0) e ∙ promised.externals w made;
      decoded = f ∙ promised.decoded;
      plain_decoded = p ∙ promised.plain_decoded;
    }
