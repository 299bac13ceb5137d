-- Document 01, "A round", over the calls' promises: each call met its promise, on what the calls before it left, garbling and every opening in one
-- round (order 3), and nothing else is known of the calls. What demand 3 then says of their answers and of what they left.
-- Assumes nothing.
use Rattle.std.specs.Prelude.{◌≡◌, List, ℕ, ◌<◌}
use Rattle.words.specs.declared.gate.Wire.{Wire}
use Rattle.circuit.specs.Wires.{inputs_in}
use Rattle.circuit.specs.File.{read_file}
use Rattle.counts.specs.Counts.{rows_in}
use Rattle.meter.specs.Meter.{Charge, charged}
use Rattle.plain.specs.Call.{PlainCall}
use Rattle.calls.specs.Garble.{GarbleCall}
use Rattle.calls.specs.Externals.{ExternalsCall}
use Rattle.calls.specs.InputKeys.{InputKeysCall}
use Rattle.calls.specs.Open.{OpenCall}
use Rattle.calls.specs.Decode.{DecodeCall}
use Rattle.round.specs.Round.{Lent, contribution_of, sheet_of, own_of, in_wire_order, by_input}
use Rattle.round.specs.Claim.{Delivered}

-- a call that was made: its promise holds with the number and place that it answered
pub record Answered (promise : ℕ → ℕ → Type 0) : Type 0 where
  pub number : ℕ
  pub place : ℕ
  pub holds : promise number place

-- what the memory lent to a round's calls holds afterwards, by party where each party makes the call
pub record Results : Type 0 where
  pub rows : List ℕ
  pub input_masks : List ℕ
  pub output_masks : List ℕ
  pub totals : List ℕ
  pub externals : ℕ → List ℕ
  pub keys : ℕ → List ℕ
  pub wire_keys : ℕ → List ℕ
  pub wire_externals : ℕ → List ℕ
  pub decoded : ℕ → List ℕ
  pub plain : List ℕ

module _ (file : List ℕ) (n K round : ℕ) (contributions values : List ℕ) (meter : Charge) (lent : Lent) (r : Results) where
  abbrev wires : List Wire
  wires = (read_file file).wires

  abbrev outputs : List ℕ
  outputs = (read_file file).outputs

  -- what the host hands on, of what the calls before left
  abbrev contribution : ℕ → List ℕ
  contribution = contribution_of K wires contributions

  abbrev pub all_externals : List ℕ
  all_externals = in_wire_order wires r.externals

  abbrev pub all_keys : List ℕ
  all_keys = by_input n K (inputs_in wires) r.keys

  -- the calls, in the order of a round
  pub record Played : Type 0 where
    pub garble : Answered (λ number place. GarbleCall file n K round contributions lent.rows lent.input_masks lent.output_masks meter
        number place r.rows r.input_masks r.output_masks r.totals)
    pub externals : (party : ℕ) → party < n → Answered (λ number place. ExternalsCall file n party (own_of wires values party)
        (own_of wires r.input_masks party) (lent.externals party) number place (r.externals party))
    pub input_keys : (party : ℕ) → party < n → Answered (λ number place. InputKeysCall file n K party (contribution party) all_externals
        (lent.input_keys party) number place (r.keys party))
    pub opening : (party : ℕ) → party < n → Answered (λ number place. OpenCall file n K party round (contribution party) all_externals all_keys r.rows
        (lent.wire_keys party) (lent.wire_externals party) number place (r.wire_keys party) (r.wire_externals party))
    pub decode : (party : ℕ) → party < n → Answered (λ number place. DecodeCall file n party (r.wire_externals party) (sheet_of outputs r.output_masks party)
        (lent.results party) number place (r.decoded party))
    pub plainly : Answered (λ number place. PlainCall file values lent.plain number place r.plain)

  -- what demand 3 says of their answers and of what they left
  pub record Kept (played : Played) : Type 0 where
    -- "every call of the round in document 01 accepts"
    pub garbles : played.garble.number ≡ 0
    pub has_externals : (party : ℕ) (h : party < n) → (played.externals party h).number ≡ 0
    pub has_keys : (party : ℕ) (h : party < n) → (played.input_keys party h).number ≡ 0
    pub opens : (party : ℕ) (h : party < n) → (played.opening party h).number ≡ 0
    pub decodes : (party : ℕ) (h : party < n) → (played.decode party h).number ≡ 0
    pub evaluates : played.plainly.number ≡ 0
    -- the named account, and no other, is charged the rows of this circuit
    pub counted : r.totals ≡ charged meter (rows_in wires)
    -- and what the rest of it says of what they left
    pub delivers : Delivered file n K contributions values r.wire_keys r.wire_externals r.decoded r.plain
