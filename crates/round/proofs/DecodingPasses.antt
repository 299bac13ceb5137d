-- The checks of decoding pass where this holds; those from 14 on, of the two-party form too.
-- Assumes nothing.
use mathlib.Core.Path.{◌≡◌, refl}
use mathlib.Core.Bool.{Bool, true, false, ◌&&◌, ◌||◌}
use mathlib.Core.List.{List}
use Prim.Native.Nat.{ℕ, max, ◌<◌}
use lib.Dec.{ltb}
use borrow.Author.Tests.{ltb-true}
use lib.ListN.{length, get_or}
use Rattle.checks.specs.declared.Refusal.TheVariants.{ValueTooLarge}
use Rattle.checks.proofs.Passed.{and_then_passed, none_bad_passed}
use Rattle.words.specs.declared.gate.Wire.{Wire}
use Rattle.circuit.specs.Wires.{modulus_at}
use Rattle.circuit.specs.File.{read_file}
use Rattle.circuit.specs.Named.{readable}
use Rattle.session.specs.Session.{partakers_checked, too_large}
use Rattle.calls.specs.Decode.{decode_lent, decode_checked}
use Rattle.session.proofs.Sessions.{PartiesFit, parties_passed, party_passed, lengths-passed}
use Rattle.scheme.proofs.ByteChecks.{below-too_large, either_fine}
use Rattle.checks.specs.Answer.{accepts}

-- what is lent to someone who may read certain outputs: of the masks only theirs count
pub record DecodeFits (wires : List Wire) (outputs : List ℕ) (may : ℕ → Bool) (externals masks results : List ℕ) : Type 0 where
  pub externals_length : length externals ≡ length wires
  pub masks_length : length masks ≡ length outputs
  pub results_length : length results ≡ length outputs
  pub external : (w : ℕ) → w < length wires → get_or externals w 0 < modulus_at wires w
  pub mask : (i : ℕ) → i < length outputs → may i ≡ true → get_or masks i 0 < modulus_at wires (get_or outputs i 0)

-- a test that is made in some cases alone
tested : (made b : Bool) → (made ≡ true → b ≡ false) → (made && b) ≡ false
tested true b fine = fine refl
tested false b fine = refl

pub lent-passed : {wires : List Wire} {outputs : List ℕ} {may : ℕ → Bool} {externals masks results : List ℕ}
    → DecodeFits wires outputs may externals masks results → decode_lent wires outputs may externals masks (length results) ≡ accepts
lent-passed {wires} {outputs} {may} {externals} {masks} {results} r =
    let modulus : ℕ → ℕ = λ i. modulus_at wires (get_or outputs i 0) in
    and_then_passed (lengths-passed (rw (r.externals_length, r.masks_length, r.results_length)))
    (none_bad_passed (max (length wires) (length outputs))
    (λ i. (ltb i (length wires) && too_large externals (modulus_at wires) i) || (ltb i (length outputs) && (may i && too_large masks modulus i))) ValueTooLarge
    (λ i _. either_fine
    (tested (ltb i (length wires)) (too_large externals (modulus_at wires) i)
    (λ h. below-too_large externals (modulus_at wires) i (r.external i (ltb-true i (length wires) h))))
    (tested (ltb i (length outputs)) (may i && too_large masks modulus i)
    (λ h. tested (may i) (too_large masks modulus i) (λ e. below-too_large masks modulus i (r.mask i (ltb-true i (length outputs) h) e))))))

module _ (file : List ℕ) (n party : ℕ) (externals masks results : List ℕ) where
  pub decode_passed : (read_file file).answer ≡ accepts → PartiesFit n → party < n → partakers_checked n (read_file file).wires (read_file file).named ≡ accepts
      → DecodeFits (read_file file).wires (read_file file).outputs (readable (read_file file).named party) externals masks results
      → decode_checked file n party externals masks results ≡ accepts
  unfolding decode_checked
  decode_passed read parties h partakers lent =
      and_then_passed read (and_then_passed (parties_passed parties) (and_then_passed (party_passed h) (and_then_passed partakers (lent-passed lent))))
