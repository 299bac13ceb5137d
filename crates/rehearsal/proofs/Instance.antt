-- What a rehearsal asks can be met: wherever the conditions of demand 3 hold, zeros of the right lengths may be lent; and so for the example's circuit.
-- Assumes nothing.
use mathlib.Core.Path.{◌≡◌, ◌∙◌}
use mathlib.Core.List.{List}
use Prim.Native.Nat.{ℕ, ◌*◌, ◌<◌}
use native.Mathlib.Omega.{arith}
use lib.ListN.{length, replicate, length-replicate}
use Rattle.meter.specs.Meter.{Charge}
use Rattle.lists.specs.Blocks.{nth_piece}
use Rattle.lists.proofs.Parts.{length_part}
use Rattle.lists.proofs.Sums.{times-fits}
use Rattle.words.specs.declared.gate.Wire.{Wire}
use Rattle.circuit.specs.Wires.{inputs_in}
use Rattle.circuit.specs.File.{read_file}
use Rattle.counts.specs.Counts.{rows_in}
use Rattle.calls.specs.Externals.{own_inputs}
use Rattle.calls.proofs.OwnInputs.{own-length}
use Rattle.round.specs.Round.{Lent}
use Rattle.round.specs.Claim.{Conditions}
use Rattle.round.specs.Example as example
use Rattle.round.proofs.Example.{conditions}
use Rattle.rehearsal.specs.Rehearsed.{lent_of, Whole}

abbrev zeros : ℕ → List ℕ
zeros size = replicate size 0

-- a party's part of them
piece_long : (n size party : ℕ) → party < n → length (nth_piece (zeros (n * size)) size party) ≡ size
piece_long n size party h =
    length_part (replicate (n * size) 0) (party * size) size (omega (arith, times-fits party n size h, length-replicate {A = ℕ} (n * size) 0))

module _ (file : List ℕ) (n K : ℕ) (contributions values : List ℕ) (meter : Charge) where
  abbrev wires : List Wire
  wires = (read_file file).wires

  abbrev outputs : List ℕ
  outputs = (read_file file).outputs

  abbrev mine : List ℕ
  mine = zeros (n * (inputs_in wires * K))

  abbrev wkeys : List ℕ
  wkeys = zeros (n * (length wires * (n * K)))

  abbrev wexternals : List ℕ
  wexternals = zeros (n * length wires)

  abbrev results : List ℕ
  results = zeros (n * length outputs)

  -- what `rehearse` requires, of zeros
  abbrev pub Serves : Type 0
  Serves =
      Conditions file n K contributions values meter
      (lent_of file n K (zeros (rows_in wires * (n * K))) (zeros (inputs_in wires)) (zeros (n * length outputs)) mine wkeys wexternals results (zeros (length outputs)))
      × Whole file n K (zeros (inputs_in wires)) mine (zeros (inputs_in wires * (n * K))) wkeys wexternals results

  pub zeros_serve : {lent : Lent} → Conditions file n K contributions values meter lent → Serves
  zeros_serve c = (
    record {
      accepted = c.accepted;
      parties = c.parties;
      owners = c.owners;
      named = c.named;
      key_length = c.key_length;
      contributions_length = c.contributions_length;
      contributions_bytes = c.contributions_bytes;
      offsets = c.offsets;
      values_length = c.values_length;
      values_below = c.values_below;
      lengths = record {
        rows = length-replicate _ 0;
        input_masks = length-replicate _ 0;
        output_masks = length-replicate _ 0;
        externals = λ party _. length-replicate (length (own_inputs party wires)) 0 ∙ own-length party wires;
        input_keys = piece_long n (inputs_in wires * K);
        wire_keys = piece_long n (length wires * (n * K));
        wire_externals = piece_long n (length wires);
        results = piece_long n (length outputs);
        plain = length-replicate _ 0;
      };
      account = c.account;
      space = c.space;
    },
    record {
      externals_long = length-replicate _ 0;
      mine_long = length-replicate _ 0;
      keys_long = length-replicate _ 0;
      wkeys_long = length-replicate _ 0;
      wexternals_long = length-replicate _ 0;
      results_long = length-replicate _ 0;
    },
  )

-- two parties, keys of one byte, a circuit with a gate of each kind: what `rehearse` requires, met
pub instance_serves : Serves example.file 2 1 example.contributions example.values example.meter
instance_serves = zeros_serve example.file 2 1 example.contributions example.values example.meter conditions
