-- The checks of opening that are made before any gate pass where this holds.
-- Assumes nothing.
use mathlib.Core.Path.{◌≡◌, ap, ◌∙◌}
use mathlib.Core.Bool.{not}
use mathlib.Core.List.{List}
use Prim.Native.Nat.{ℕ, ◌+◌, ◌*◌, ◌<◌}
use lib.ListN.{length, get_or}
use Rattle.lists.specs.Blocks.{nth_piece}
use Rattle.checks.specs.declared.Refusal.TheVariants.{WrongInputKey}
use Rattle.checks.proofs.Passed.{and_then_passed, none_bad_passed}
use Rattle.words.specs.declared.gate.Wire.{Wire}
use Rattle.circuit.specs.Wires.{modulus_at, inputs_in}
use Rattle.circuit.specs.File.{read_file}
use Rattle.counts.specs.Counts.{rows_in}
use Rattle.scheme.specs.Contribution.{contribution_size}
use Rattle.scheme.specs.Draw.{drawn}
use Rattle.scheme.proofs.Contributed.{Contributed}
use Rattle.search.specs.Search.{same}
use Rattle.search.proofs.Same.{same_refl}
use Rattle.scheme.specs.Bytes.{offsets_checked, keys_checked, rows_checked}
use Rattle.calls.specs.InputKeys.{input_key}
use Rattle.calls.specs.Open.{input_key_wrong, before_opening}
use Rattle.session.specs.Session.{partakers_checked}
use Rattle.session.proofs.Sessions.{SessionFits, session_passed, party_passed, lengths-passed}
use Rattle.scheme.proofs.ByteChecks.{values_passed}
use Rattle.round.proofs.Contributions.{contributions_passed}
use Rattle.checks.specs.Answer.{accepts}

pub record OpeningFits (file : List ℕ) (n K party : ℕ) (contribution externals keys rows wkeys wexternals : List ℕ) : Type 0 where
  pub read : (read_file file).answer ≡ accepts
  pub session : SessionFits n K
  pub takes_part : party < n
  pub partakers : partakers_checked n (read_file file).wires (read_file file).named ≡ accepts
  pub contribution_length : length contribution ≡ contribution_size K (read_file file).wires
  pub externals_length : length externals ≡ inputs_in (read_file file).wires
  pub keys_length : length keys ≡ inputs_in (read_file file).wires * (n * K)
  pub rows_length : length rows ≡ rows_in (read_file file).wires * (n * K)
  pub wkeys_length : length wkeys ≡ length (read_file file).wires * (n * K)
  pub wexternals_length : length wexternals ≡ length (read_file file).wires
  pub external : (w : ℕ) → w < length externals → get_or externals w 0 < modulus_at (read_file file).wires w
  pub contributed : Contributed 1 K (read_file file).wires contribution
  pub offsets : offsets_checked 1 K (read_file file).wires contribution ≡ accepts
  pub keys_below : keys_checked n K (read_file file).wires keys ≡ accepts
  pub rows_below : rows_checked n K (read_file file).wires rows ≡ accepts
  pub own_key : (w : ℕ) → w < inputs_in (read_file file).wires
      → nth_piece keys K (w * n + party) ≡ input_key (read_file file).wires (drawn 1 K (read_file file).wires contribution) externals w

pub opening_passed : {file : List ℕ} {n K party : ℕ} {contribution externals keys rows wkeys wexternals : List ℕ}
    → OpeningFits file n K party contribution externals keys rows wkeys wexternals
    → before_opening file n K party contribution externals keys rows wkeys wexternals ≡ accepts
unfolding before_opening
opening_passed {file} {n} {K} {party} {contribution} {externals} {keys} {rows} {wkeys} {wexternals} r =
    let wires : List Wire = (read_file file).wires in
    and_then_passed
    (and_then_passed r.read
    (and_then_passed (session_passed r.session)
    (and_then_passed (party_passed r.takes_part)
    (and_then_passed r.partakers
    (and_then_passed
    (lengths-passed (rw (r.contribution_length, r.externals_length, r.keys_length, r.rows_length, r.wkeys_length, r.wexternals_length)))
    (and_then_passed (values_passed externals (modulus_at wires) r.external)
    (and_then_passed (contributions_passed 1 K wires contribution r.contributed)
    (and_then_passed r.offsets
    (and_then_passed r.keys_below
    r.rows_below)))))))))
    (none_bad_passed (inputs_in wires) (input_key_wrong n K party wires contribution externals keys) WrongInputKey
    (λ w h. ap not (ap (λ (l : List ℕ). same l (input_key wires (drawn 1 K wires contribution) externals w)) (r.own_key w h)
    ∙ same_refl (input_key wires (drawn 1 K wires contribution) externals w))))
