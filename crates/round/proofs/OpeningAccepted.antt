-- What an accepted opening says, whatever the rows: of what it was lent, of what it found on every wire, and of what it wrote.
-- Assumes nothing.
use mathlib.Core.Path.{◌≡◌, refl, ap, ◌∙◌}
use mathlib.Core.List.{List, [], ◌∷◌}
use Prim.Native.Nat.{ℕ, ◌*◌, ◌<◌}
use native.Mathlib.Omega.{arith}
use lib.ListN.{length, get_or}
use Rattle.checks.specs.declared.Refusal.TheVariants.{ValueTooLarge, NoMultiplier}
use Rattle.checks.proofs.Passed.{and_then-left, and_then-right, none_bad_none, afterwards_passed}
use Rattle.checks.proofs.Numbers.{zero_passed}
use Rattle.words.specs.declared.gate.Wire.{Wire}
use Rattle.words.proofs.Steps.{not_passed}
use Rattle.circuit.specs.Wires.{modulus_at, inputs_in}
use Rattle.circuit.specs.File.{read_file}
use Rattle.counts.specs.Counts.{rows_in}
use Rattle.pads.specs.Pad.{shake_pad}
use Rattle.session.specs.Session.{too_large, values_checked}
use Rattle.session.proofs.Sessions.{lengths_same}
use Rattle.scheme.specs.Contribution.{contribution_size}
use Rattle.scheme.specs.Draw.{Draw, drawn}
use Rattle.scheme.specs.Opening.{wire_keys, wire_externals}
use Rattle.scheme.specs.Bytes.{keys_checked}
use Rattle.scheme.proofs.ByteChecks.{too_large-below, keys_below}
use Rattle.calls.specs.Open.{open_bytes, open_lent, gates_checked, before_opening, open_checked, open_keys, open_externals, OpenCall}
use Rattle.round.proofs.RealPad.{shake_pad-size}
use Rattle.round.proofs.Reduced.{Checked}
use Rattle.checks.specs.Answer.{accepts}

module _ {file : List ℕ} {n K party round : ℕ} {contribution externals keys rows wkeys₀ wexternals₀ : List ℕ} {place : ℕ} {wkeys wexternals : List ℕ}
    (call : OpenCall file n K party round contribution externals keys rows wkeys₀ wexternals₀ 0 place wkeys wexternals) where
  abbrev wires : List Wire
  wires = (read_file file).wires

  abbrev own : Draw
  own = drawn 1 K wires contribution

  before : before_opening file n K party contribution externals keys rows wkeys₀ wexternals₀ ≡ accepts
  unfolding open_checked
  before = and_then-left _ _ (zero_passed call.answer refl)

  gates : gates_checked (shake_pad round) n K party wires own externals keys rows ≡ accepts
  unfolding open_checked
  gates = and_then-right _ _ (zero_passed call.answer refl)

  lent : open_lent n K wires contribution externals keys rows (length wkeys₀) (length wexternals₀) ≡ accepts
  unfolding before_opening
  lent = and_then-right _ _ (and_then-right _ _ (and_then-right _ _ (and_then-right _ _ (and_then-left _ _ before))))

  lengths : (i : ℕ) → get_or (length contribution ∷ length externals ∷ length keys ∷ length rows ∷ length wkeys₀ ∷ length wexternals₀ ∷ []) i 0
      ≡ get_or (contribution_size K wires ∷ inputs_in wires ∷ inputs_in wires * (n * K) ∷ rows_in wires * (n * K) ∷ length wires * (n * K) ∷ length wires ∷ []) i 0
  lengths i = ap (λ (l : List ℕ). get_or l i 0) (lengths_same _ _ (and_then-left _ _ lent))

  bytes : open_bytes n K wires contribution externals keys rows ≡ accepts
  bytes = and_then-right _ _ lent

  values : values_checked externals (modulus_at wires) ≡ accepts
  values = and_then-left _ _ bytes

  input_keys : keys_checked n K wires keys ≡ accepts
  input_keys = and_then-left _ _ (and_then-right _ _ (and_then-right _ _ (and_then-right _ _ bytes)))

  value-below : (w : ℕ) → w < inputs_in wires → get_or externals w 0 < modulus_at wires w
  unfolding values_checked
  value-below w h =
      too_large-below externals (modulus_at wires) w
      (none_bad_none (length externals) (too_large externals (modulus_at wires)) ValueTooLarge values w (omega (arith, lengths 1)))

  pub lent_checked : Checked (shake_pad round) n K party wires own externals keys rows
  lent_checked =
      record {
        pads = record { size = shake_pad-size round };
        keys_size = lengths 2;
        rows_size = lengths 3;
        external = value-below;
        key = keys_below n K wires keys (lengths 2) input_keys;
        fits = λ w made. not_passed _ (none_bad_none (length wires) _ NoMultiplier gates w made);
      }

  pub keys-written : wkeys ≡ wire_keys (shake_pad round) n K party wires own externals keys rows
  unfolding open_keys
  keys-written = call.wire_keys_is ∙ afterwards_passed before _ _ ∙ afterwards_passed gates _ _

  pub externals-written : wexternals ≡ wire_externals (shake_pad round) n K party wires own externals keys rows
  unfolding open_externals
  externals-written = call.wire_externals_is ∙ afterwards_passed before _ _ ∙ afterwards_passed gates _ _
