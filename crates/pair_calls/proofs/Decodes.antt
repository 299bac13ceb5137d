-- Decoding: a circuit whose outputs name nobody is one of which every output may be read, and how the call ends.
-- Assumes nothing.
use mathlib.Core.Path.{◌≡◌, refl, sym, ap, ap₂, fun_ext, ◌∙◌}
use mathlib.Core.Bool.{Bool}
use mathlib.Core.List.{List}
use Prim.Native.Nat.{ℕ, zero, suc}
use lib.ListN.{length, get_or, take, replicate, length-replicate}
use Rattle.checks.specs.Answer.{Answer, number_in, place_in}
use Rattle.std.specs.Prelude.{Err}
use Rattle.checks.specs.declared.Refused.{Refused}
use Rattle.checks.proofs.Answers.{and_then_stop}
use Rattle.party_calls.proofs.Ending.{behind_file, ends-refused}
use Rattle.words.specs.declared.gate.Wire.{Wire}
use Rattle.circuit.specs.declared.Circuit.{Circuit}
use Rattle.circuit.specs.Named.{readable}
use Rattle.circuit.specs.File.{read_file}
use Rattle.circuit.specs.Held.{wires_in, outputs_in, circuit_of, Holds}
use Rattle.circuit.proofs.Allowed.{everyone_may}
use Rattle.calls.specs.Decode.{decode_lent, decode_made}
use Rattle.party_calls.specs.Decoding.{lent_by, Ready, Decoded}
use Rattle.party_calls.proofs.Decodes.{ready_of, behind_as}
use Rattle.pair.specs.Decode.{any_output, pair_decode_checked, pair_decode_after, PairDecodeCall}

zeros_front : (given n i : ℕ) → let none : ℕ = 0 in get_or (take given (replicate n none)) i 0 ≡ none
zeros_front zero n i = refl
zeros_front (suc given) zero i = refl
zeros_front (suc given) (suc n) zero = refl
zeros_front (suc given) (suc n) (suc i) = zeros_front given n i

everyone : (given party : ℕ) {named : List ℕ} → named ≡ replicate 256 0 → readable (take given named) party ≡ any_output
everyone given party {named} e =
    fun_ext
    (λ i. sym (everyone_may (get_or (take given named) i 0) party (ap (λ (l : List ℕ). get_or (take given l) i 0) e ∙ zeros_front given 256 i)))

-- a circuit with other names
abbrev pub naming : Circuit → List ℕ → Circuit
naming circuit named = circuit_of circuit.wires circuit.outputs named circuit.made circuit.inputs circuit.given

module _ (file externals masks before : List ℕ) where
  pub pair_unread : {answer : Answer} {why : Refused} → answer ≡ Err why → (read_file file).answer ≡ Err why
      → PairDecodeCall file externals masks before (number_in answer) (place_in answer) before
  unfolding pair_decode_checked pair_decode_after
  pair_unread e r =
      let d = ends-refused (decode_made (read_file file).wires (read_file file).outputs any_output externals masks) before e (and_then_stop _ r) in
      record { answer = d.0; results_is = d.1 }

  module _ {circuit : Circuit} (h : Holds circuit (read_file file)) {named : List ℕ} (e : named ≡ replicate 256 0) where
    pub pair-ready : Ready (naming circuit named)
    pair-ready =
        let r = ready_of file h in
        let held = r.held in
        record {
          held = record {
            room = record { made = held.room.made; wires = held.room.wires };
            inputs = held.inputs;
            given = held.given;
            outputs = held.outputs;
            named = ap length e ∙ length-replicate {A = ℕ} 256 0;
          };
          made = r.made;
        }

    -- on the file's wires and outputs, of which every one may be read
    module _ {X : Type 0} (by : List Wire → List ℕ → (ℕ → Bool) → X) where
      same : by (wires_in circuit) (outputs_in circuit) (readable (take circuit.given named) 0) ≡ by (read_file file).wires (read_file file).outputs any_output
      same =
          ap₂ (λ (w : List Wire) (o : List ℕ). by w o (readable (take circuit.given named) 0)) h.wires h.outputs
          ∙ ap (by (read_file file).wires (read_file file).outputs) (everyone circuit.given 0 e)

    checks_is : lent_by (naming circuit named) 0 externals masks (length before) ≡ pair_decode_checked file externals masks before
    unfolding pair_decode_checked
    checks_is = behind_file file _ h (same (λ w o may. decode_lent w o may externals masks (length before)))

    pub pair-decoded : {answer : Answer} {out : List ℕ} → Decoded (naming circuit named) 0 externals masks before answer out
        → PairDecodeCall file externals masks before (number_in answer) (place_in answer) out
    unfolding pair_decode_after
    pair-decoded d =
        let c = behind_as d checks_is (same (λ w o may. decode_made w o may externals masks)) in
        record { answer = c.0; results_is = c.1 }
