-- The checks of the call for a party's external values pass where this holds.
-- Assumes nothing.
use mathlib.Core.Path.{◌≡◌}
use mathlib.Core.Bool.{◌||◌}
use mathlib.Core.List.{List}
use Prim.Native.Nat.{ℕ, ◌<◌}
use lib.ListN.{length, get_or}
use Rattle.checks.specs.declared.Refusal.TheVariants.{ValueTooLarge}
use Rattle.checks.proofs.Passed.{and_then_passed, none_bad_passed}
use Rattle.circuit.specs.Wires.{modulus_at}
use Rattle.circuit.specs.File.{read_file}
use Rattle.session.specs.Session.{partakers_checked, too_large}
use Rattle.calls.specs.Externals.{own_inputs, externals_checked}
use Rattle.session.proofs.Sessions.{PartiesFit, parties_passed, party_passed, lengths-passed}
use Rattle.scheme.proofs.ByteChecks.{below-too_large, either_fine}
use Rattle.checks.specs.Answer.{accepts}

pub record ExternalsFit (file : List ℕ) (n party : ℕ) (values masks externals : List ℕ) : Type 0 where
  pub read : (read_file file).answer ≡ accepts
  pub parties : PartiesFit n
  pub takes_part : party < n
  pub partakers : partakers_checked n (read_file file).wires (read_file file).named ≡ accepts
  pub values_length : length values ≡ length (own_inputs party (read_file file).wires)
  pub masks_length : length masks ≡ length (own_inputs party (read_file file).wires)
  pub externals_length : length externals ≡ length (own_inputs party (read_file file).wires)
  pub value : (i : ℕ) → i < length (own_inputs party (read_file file).wires)
      → get_or values i 0 < modulus_at (read_file file).wires (get_or (own_inputs party (read_file file).wires) i 0)
  pub mask : (i : ℕ) → i < length (own_inputs party (read_file file).wires)
      → get_or masks i 0 < modulus_at (read_file file).wires (get_or (own_inputs party (read_file file).wires) i 0)

pub externals_passed : {file : List ℕ} {n party : ℕ} {values masks externals : List ℕ} → ExternalsFit file n party values masks externals → externals_checked file n party values masks externals ≡ accepts
unfolding externals_checked
externals_passed {file} {n} {party} {values} {masks} {externals} r =
    let own : List ℕ = own_inputs party (read_file file).wires in
    let modulus : ℕ → ℕ = λ i. modulus_at (read_file file).wires (get_or own i 0) in
    and_then_passed r.read
    (and_then_passed (parties_passed r.parties)
    (and_then_passed (party_passed r.takes_part)
    (and_then_passed r.partakers
    (and_then_passed (lengths-passed (rw (r.values_length, r.masks_length, r.externals_length)))
    (none_bad_passed (length own) (λ i. too_large values modulus i || too_large masks modulus i) ValueTooLarge
    (λ i h. either_fine (below-too_large values modulus i (r.value i h)) (below-too_large masks modulus i (r.mask i h))))))))
