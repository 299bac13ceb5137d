-- What a round of two starts from, in one record: the conditions of the claim, and what they give of the circuit, of the draw and of the values.
-- Assumes nothing.
use mathlib.Core.List.{List}
use Prim.Native.Nat.{ℕ, ◌<◌}
use native.Mathlib.Omega.{arith}
use lib.ListN.{get_or}
use Rattle.checks.specs.declared.Refusal.TheVariants.{ValueTooLarge}
use Rattle.checks.proofs.Passed.{and_then-left, and_then-right, none_bad_none}
use Rattle.meter.specs.Meter.{Charge}
use Rattle.words.specs.declared.gate.Wire.{Wire}
use Rattle.circuit.specs.Wires.{modulus_at, inputs_in}
use Rattle.circuit.specs.File.{read_file}
use Rattle.circuit.specs.Accepted.{AcceptedCircuit}
use Rattle.circuit.proofs.Accepted.{accepted}
use Rattle.session.specs.Session.{file_checked, too_large, values_checked}
use Rattle.session.proofs.Sessions.{session-fits}
use Rattle.pads.specs.Pad.{Pad}
use Rattle.scheme.specs.Drawn.{PadSize}
use Rattle.scheme.proofs.ByteChecks.{too_large-below}
use Rattle.pair.specs.Bytes.{selects_checked}
use Rattle.pair.specs.Undone.{NoSelects, DrawnForTwo}
use Rattle.pair.proofs.Selects.{no_selects}
use Rattle.pair.proofs.Reduced.{InputsBelow}
use Rattle.pair_round.specs.Round.{Lent}
use Rattle.pair_round.specs.Claim.{Conditions}
use Rattle.pair_round.proofs.Draws.{drawn_for_two, inputs-below}

pub record Start (pad : Pad) (file : List ℕ) (K : ℕ) (draw values : List ℕ) (meter : Charge) (lent : Lent) : Type 0 where
  pub pads : PadSize pad
  pub conditions : Conditions file K draw values meter lent
  pub accepted : AcceptedCircuit file (read_file file).wires (read_file file).outputs
  pub selects : NoSelects (read_file file).wires
  pub drawn : DrawnForTwo K (read_file file).wires draw
  pub inputs : InputsBelow K (read_file file).wires draw
  pub value : (w : ℕ) → w < inputs_in (read_file file).wires → get_or values w 0 < modulus_at (read_file file).wires w

pub begun : {pad : Pad} {file : List ℕ} {K : ℕ} {draw values : List ℕ} {meter : Charge} {lent : Lent}
    → PadSize pad → Conditions file K draw values meter lent → Start pad file K draw values meter lent
unfolding values_checked
begun {pad} {file} {K} {draw} {values} pads c =
    let wires : List Wire = (read_file file).wires in
    let circuit = accepted file (and_then-left (file_checked file) (selects_checked file) c.circuit) in
    record {
      pads = pads;
      conditions = c;
      accepted = circuit;
      selects = no_selects file (and_then-right (file_checked file) (selects_checked file) c.circuit);
      drawn = drawn_for_two circuit K draw c.draw_length (session-fits 2 K c.session).least c.units;
      inputs = inputs-below circuit K draw c.draw_length c.draw_bytes;
      value = λ w h.
          too_large-below values (modulus_at wires) w
          (none_bad_none _ (too_large values (modulus_at wires)) ValueTooLarge c.values_bytes w (omega (arith, c.values_length)));
    }
