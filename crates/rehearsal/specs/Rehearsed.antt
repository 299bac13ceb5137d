-- Demand 3 of one function that makes every call of a round: what it is lent, and what it then answers and leaves.
-- Assumes nothing.
use Rattle.std.specs.Prelude.{◌≡◌, List, ℕ, ◌*◌, length, replicate}
use Rattle.meter.specs.Meter.{Charge}
use Rattle.lists.specs.Blocks.{nth_piece}
use Rattle.words.specs.declared.gate.Wire.{Wire}
use Rattle.circuit.specs.Wires.{inputs_in}
use Rattle.circuit.specs.File.{read_file}
use Rattle.scheme.specs.Contribution.{contribution_size}
use Rattle.calls.specs.Externals.{own_inputs}
use Rattle.round.specs.Round.{Lent}
use Rattle.round.specs.Played.{Results, Played, Kept, all_externals, all_keys}
use Rattle.rehearsal.specs.Hosts.{own_after}

module _ (file : List ℕ) (n K : ℕ) where
  abbrev wires : List Wire
  wires = (read_file file).wires

  abbrev outputs : List ℕ
  outputs = (read_file file).outputs

  -- the memory of each call: the parties' parts lie one after another, and external values are first written to zeros
  abbrev pub lent_of : (rows input_masks output_masks mine wkeys wexternals results evaluated : List ℕ) → Lent
  lent_of rows input_masks output_masks mine wkeys wexternals results evaluated =
      record {
        rows = rows;
        input_masks = input_masks;
        output_masks = output_masks;
        externals = λ party. replicate (length (own_inputs party wires)) 0;
        input_keys = λ party. nth_piece mine (inputs_in wires * K) party;
        wire_keys = λ party. nth_piece wkeys (length wires * (n * K)) party;
        wire_externals = λ party. nth_piece wexternals (length wires) party;
        results = λ party. nth_piece results (length outputs) party;
        plain = evaluated;
      }

  -- the same memory after the calls, and what the meter then holds; a party's external values stand at their wires alone
  abbrev pub results_of : (values rows input_masks output_masks totals mine wkeys wexternals results evaluated : List ℕ) → Results
  results_of values rows input_masks output_masks totals mine wkeys wexternals results evaluated =
      record {
        rows = rows;
        input_masks = input_masks;
        output_masks = output_masks;
        totals = totals;
        externals = λ party. own_after file n wires values input_masks party;
        keys = λ party. nth_piece mine (inputs_in wires * K) party;
        wire_keys = λ party. nth_piece wkeys (length wires * (n * K)) party;
        wire_externals = λ party. nth_piece wexternals (length wires) party;
        decoded = λ party. nth_piece results (length outputs) party;
        plain = evaluated;
      }

  -- how many inputs, wires and outputs there are; and how many bytes a party's contribution, its input keys, and its keys of all wires have
  pub record Sized (own made given size each wide : ℕ) : Type 0 where
    pub own_is : own ≡ inputs_in wires
    pub made_is : made ≡ length wires
    pub given_is : given ≡ length outputs
    pub size_is : size ≡ contribution_size K wires
    pub each_is : each ≡ inputs_in wires * K
    pub wide_is : wide ≡ length wires * (n * K)

  -- the lengths of what holds all parties' parts
  pub record Whole (externals mine keys wkeys wexternals results : List ℕ) : Type 0 where
    pub externals_long : length externals ≡ inputs_in wires
    pub mine_long : length mine ≡ n * (inputs_in wires * K)
    pub keys_long : length keys ≡ inputs_in wires * (n * K)
    pub wkeys_long : length wkeys ≡ n * (length wires * (n * K))
    pub wexternals_long : length wexternals ≡ n * length wires
    pub results_long : length results ≡ n * length outputs

  -- what the round comes to
  pub record Rehearsed (round : ℕ) (contributions values : List ℕ) (meter : Charge) (lent : Lent) (results : Results) (externals keys : List ℕ) : Type 0 where
    -- each call was made, on what the calls before it left, and its promise holds
    pub played : Played file n K round contributions values meter lent results
    -- what the host put together: the external values of all inputs in wire order, all parties' keys by input, then party
    pub externals_are : externals ≡ all_externals file n K round contributions values meter lent results
    pub keys_are : keys ≡ all_keys file n K round contributions values meter lent results
    -- demand 3: each call accepted, and what they left is as it says
    pub kept : Kept file n K round contributions values meter lent results played
