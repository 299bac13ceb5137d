-- The calls that a rehearsal makes are the calls of a round, each on what those before it left; so demand 3 holds of them.
-- Assumes nothing.
use mathlib.Core.Path.{◌≡◌, subst, ◌∙◌}
use mathlib.Core.List.{List}
use Prim.Native.Nat.{ℕ, ◌*◌}
use lib.ListN.{length}
use Rattle.meter.specs.Meter.{Charge}
use Rattle.lists.specs.Blocks.{nth_piece}
use Rattle.words.specs.declared.gate.Wire.{Wire}
use Rattle.circuit.specs.Wires.{inputs_in}
use Rattle.circuit.specs.File.{read_file}
use Rattle.circuit.proofs.Accepted.{accepted}
use Rattle.scheme.specs.Contribution.{contribution_size}
use Rattle.plain.specs.Call.{PlainCall}
use Rattle.calls.specs.Garble.{GarbleCall}
use Rattle.calls.specs.InputKeys.{InputKeysCall}
use Rattle.calls.specs.Open.{OpenCall}
use Rattle.round.specs.Round.{Lent}
use Rattle.round.specs.Claim.{Conditions}
use Rattle.round.specs.Played.{Answered, Results, Played, all_externals, all_keys}
use Rattle.round.proofs.Inputs.{input-owned}
use Rattle.round.proofs.Demand.{demand}
use Rattle.rehearsal.specs.Hosts.{Masked, keys_by_input}
use Rattle.rehearsal.specs.Turns.{KeysOfAll, OpenedByAll, DecodedByAll}
use Rattle.rehearsal.specs.Rehearsed.{lent_of, results_of, Whole, Rehearsed}
use Rattle.rehearsal.proofs.Gathered.{gathered-all}

module _ {file : List ℕ} {n K round : ℕ} {contributions values : List ℕ} {meter : Charge}
    {rows₀ inputs₀ outputs₀ externals₀ mine₀ keys₀ wkeys₀ wexternals₀ results₀ evaluated₀ : List ℕ}
    {number place number' place' : ℕ} {totals rows inputs outputs externals mine keys wkeys wexternals results evaluated : List ℕ}
    (conditions : Conditions file n K contributions values meter (lent_of file n K rows₀ inputs₀ outputs₀ mine₀ wkeys₀ wexternals₀ results₀ evaluated₀))
    (whole : Whole file n K externals₀ mine₀ keys₀ wkeys₀ wexternals₀ results₀)
    (garbled : GarbleCall file n K round contributions rows₀ inputs₀ outputs₀ meter number place rows inputs outputs totals)
    (masked : Masked file n (read_file file).wires values inputs externals₀ externals)
    (keyed : KeysOfAll file n K contributions (contribution_size K (read_file file).wires) externals (inputs_in (read_file file).wires * K) mine₀ mine)
    (put : keys ≡ keys_by_input n K (inputs_in (read_file file).wires) (inputs_in (read_file file).wires * K) mine)
    (opened : OpenedByAll file n K round contributions (contribution_size K (read_file file).wires) externals keys rows (length (read_file file).wires * (n * K)) wkeys₀
    (length (read_file file).wires) wexternals₀ wkeys wexternals)
    (decoded : DecodedByAll file n wexternals (length (read_file file).wires) outputs (length (read_file file).outputs) results₀ results)
    (plainly : PlainCall file values evaluated₀ number' place' evaluated) where
  abbrev wires : List Wire
  wires = (read_file file).wires

  abbrev lent : Lent
  lent = lent_of file n K rows₀ inputs₀ outputs₀ mine₀ wkeys₀ wexternals₀ results₀ evaluated₀

  abbrev left : Results
  left = results_of file n K values rows inputs outputs totals mine wkeys wexternals results evaluated

  externals-is : externals ≡ all_externals file n K round contributions values meter lent left
  externals-is =
      masked.after_is
      ∙ gathered-all file n wires values inputs externals₀ whole.externals_long (λ w h. input-owned (accepted file conditions.accepted) w h)
      conditions.owners

  keys-is : keys ≡ all_keys file n K round contributions values meter lent left
  keys-is = put

  played : Played file n K round contributions values meter lent left
  played =
      record {
        garble = record { number = number; place = place; holds = garbled };
        externals = masked.calls;
        input_keys =
            λ party h.
            subst (λ (xs : List ℕ). Answered (λ a b. InputKeysCall file n K party (nth_piece contributions (contribution_size K wires) party) xs
            (nth_piece mine₀ (inputs_in wires * K) party) a b (nth_piece mine (inputs_in wires * K) party))) externals-is (keyed.calls party h);
        opening =
            λ party h.
            subst (λ (xs : List ℕ). Answered (λ a b. OpenCall file n K party round (nth_piece contributions (contribution_size K wires) party) xs
            (all_keys file n K round contributions values meter lent left) rows (nth_piece wkeys₀ (length wires * (n * K)) party) (nth_piece wexternals₀ (length wires) party)
            a b (nth_piece wkeys (length wires * (n * K)) party) (nth_piece wexternals (length wires) party))) externals-is
            (subst (λ (xs : List ℕ). Answered (λ a b. OpenCall file n K party round (nth_piece contributions (contribution_size K wires) party) externals
            xs rows (nth_piece wkeys₀ (length wires * (n * K)) party) (nth_piece wexternals₀ (length wires) party)
            a b (nth_piece wkeys (length wires * (n * K)) party) (nth_piece wexternals (length wires) party))) keys-is (opened.calls party h));
        decode = decoded.calls;
        plainly = record { number = number'; place = place'; holds = plainly };
      }

  pub rehearses : Rehearsed file n K round contributions values meter lent left externals keys
  rehearses =
      record {
        played = played;
        externals_are = externals-is;
        keys_are = keys-is;
        kept = demand file n K round contributions values meter lent left conditions played;
      }
