-- How the call ends: the checks after reading, what acceptance hands to the evaluation, and the outputs that it writes.
-- Assumes nothing.
use mathlib.Core.Path.{◌≡◌, sym, ap, ap₂, subst, ◌∙◌}
use mathlib.Core.List.{List, [], ◌∷◌}
use Prim.Native.Nat.{ℕ, ◌≤◌, ◌<◌}
use native.Mathlib.Omega.{arith}
use borrow.Author.Tests.{leb-false}
use lib.ListN.{length, get_or}
use lib.Seq.{get_or-take}
use Rattle.lists.specs.Blocks.{tab}
use Rattle.lists.proofs.Blocks.{tab_ext}
use Rattle.checks.specs.declared.Refusal.TheVariants.{ValueTooLarge}
use Rattle.checks.specs.Answer.{Answer, accepts, number_in, place_in}
use Rattle.checks.proofs.Passed.{and_then-left, and_then-right, none_bad_none, afterwards_passed}
use Rattle.checks.proofs.Answers.{afterwards-refused, reports, and_then_stop, and_then-next, stage_refused, stage_passed}
use Rattle.words.specs.declared.gate.Wire.{Wire}
use Rattle.circuit.specs.declared.Circuit.{Circuit}
use Rattle.circuit.specs.Wires.{modulus_at, inputs_in}
use Rattle.circuit.specs.File.{read_file}
use Rattle.circuit.specs.Held.{wires_in, outputs_in, Held, Holds}
use Rattle.circuit.proofs.Accepted.{accepted}
use Rattle.session.specs.Session.{lengths_checked, too_large, values_checked}
use Rattle.session.proofs.Sessions.{lengths_same}
use Rattle.session.proofs.Circuits.{held_of, made-is, given_is, inputs-made}
use Rattle.plain.specs.Plain.{plain_to, plain_values, plain_outputs}
use Rattle.plain.specs.Call.{fed_checked, plain_checked, plain_after, PlainCall}
use Rattle.plain.specs.Ready.{Fed, Feeds, Done, Gives}
use Rattle.std.specs.Prelude.{Err}
use Rattle.checks.specs.declared.Refused.{Refused}

-- ---- the checks after reading

module _ {circuit : Circuit} (held : Held circuit) (values : List ℕ) (bytes : ℕ) {lent : Answer}
    (checked : lent ≡ lengths_checked (length values ∷ bytes ∷ []) (circuit.inputs ∷ circuit.given ∷ [])) where
  abbrev wires : List Wire
  wires = wires_in circuit

  abbrev outputs : List ℕ
  outputs = outputs_in circuit

  abbrev rest : Answer
  rest = values_checked values (modulus_at wires)

  lent_met : lent ≡ lengths_checked (length values ∷ bytes ∷ []) (inputs_in wires ∷ length outputs ∷ [])
  lent_met = checked ∙ ap (lengths_checked (length values ∷ bytes ∷ [])) (ap₂ (λ (a b : ℕ). a ∷ b ∷ []) held.inputs (sym (given_is held)))

  pub lent-stops : {why : Refused} → lent ≡ Err why → Err why ≡ fed_checked wires outputs values bytes
  lent-stops e = stage_refused lent_met rest e

  module _ (e : lent ≡ accepts) where
    pub values_fit : length values ≤ circuit.made
    values_fit =
        omega (arith, ap (λ (l : List ℕ). get_or l 0 0) (lengths_same _ _ (sym checked ∙ e)), held.inputs, inputs-made held)

    pub values-left : {answer : Answer} → answer ≡ rest → answer ≡ fed_checked wires outputs values bytes
    values-left m = stage_passed lent_met e m

-- ---- the whole call: the reader's answer, and then that of the checks after it

module _ (file values before : List ℕ) where
  -- what is checked of the circuit that the definition reads
  abbrev fed : Answer
  fed = fed_checked (read_file file).wires (read_file file).outputs values (length before)

  pub unread : {why : Refused} → (read_file file).answer ≡ Err why → plain_checked file values before ≡ Err why
  unfolding plain_checked
  unread e = sym (and_then_stop fed e)

  -- refused: the buffer is as it was
  pub ends-refused : {answer : Answer} {why : Refused} → answer ≡ Err why → plain_checked file values before ≡ Err why → PlainCall file values before (number_in answer) (place_in answer) before
  unfolding plain_after
  ends-refused e m =
      record {
        answer = reports (e ∙ sym m);
        results_is = afterwards-refused m (plain_outputs file (read_file file).wires (read_file file).outputs values) before;
      }

  module _ {circuit : Circuit} (h : Holds circuit (read_file file)) {check : Answer}
      (checked : check ≡ fed_checked (wires_in circuit) (outputs_in circuit) values (length before)) where
    fed_met : check ≡ fed
    fed_met = checked ∙ ap₂ (λ (w : List Wire) (o : List ℕ). fed_checked w o values (length before)) h.wires h.outputs

    pub call_met : plain_checked file values before ≡ check
    unfolding plain_checked
    call_met = and_then-next fed h.accepted ∙ sym fed_met

    module _ (e : check ≡ accepts) where
      fed_passed : fed ≡ accepts
      fed_passed = sym fed_met ∙ e

      lengths : (length values ∷ length before ∷ []) ≡ (inputs_in (read_file file).wires ∷ length (read_file file).outputs ∷ [])
      lengths = lengths_same _ _ (and_then-left (lengths_checked (length values ∷ length before ∷ []) (inputs_in (read_file file).wires ∷ length (read_file file).outputs ∷ [])) (values_checked values (modulus_at (read_file file).wires)) fed_passed)

      size : length values ≡ inputs_in (read_file file).wires
      size = ap (λ (l : List ℕ). get_or l 0 0) lengths

      room : length before ≡ length (read_file file).outputs
      room = ap (λ (l : List ℕ). get_or l 1 0) lengths

      small : (i : ℕ) → i < length values → get_or values i 0 < modulus_at (read_file file).wires i
      unfolding values_checked
      small i l =
          leb-false (modulus_at (read_file file).wires i) (get_or values i 0)
          (none_bad_none (length values) (too_large values (modulus_at (read_file file).wires)) ValueTooLarge
          (and_then-right (lengths_checked (length values ∷ length before ∷ []) (inputs_in (read_file file).wires ∷ length (read_file file).outputs ∷ [])) (values_checked values (modulus_at (read_file file).wires)) fed_passed) i l)

      fed_read : Fed file (read_file file).wires (read_file file).outputs values
      fed_read = record { accepted = accepted file h.accepted; size = size; below = λ i l. small i (omega (arith, size)) }

      pub feeds_of : Feeds file circuit values (length before)
      feeds_of =
          record {
            held = held_of h;
            fed =
                subst (λ (w : List Wire). Fed file w (outputs_in circuit) values) (sym h.wires)
                (subst (λ (o : List ℕ). Fed file (read_file file).wires o values) (sym h.outputs) fed_read);
            size = room ∙ sym h.given;
          }

      -- accepted: the outputs are written
      pub ends-written : {out : List ℕ} → out ≡ plain_outputs file (wires_in circuit) (outputs_in circuit) values → PlainCall file values before 0 0 out
      unfolding plain_after
      ends-written o =
          record {
            answer = reports (sym (call_met ∙ e));
            results_is =
                o ∙ ap₂ (λ (w : List Wire) (p : List ℕ). plain_outputs file w p values) h.wires h.outputs
                ∙ sym (afterwards_passed (call_met ∙ e) (plain_outputs file (read_file file).wires (read_file file).outputs values) before);
          }

-- ---- the outputs

module _ {file : List ℕ} {circuit : Circuit} {values : List ℕ} {bytes : ℕ} (feeds : Feeds file circuit values bytes) {done : List ℕ} (r : Done file (wires_in circuit) values circuit.made done) where
  lower : (i : ℕ) → i < length (outputs_in circuit) → get_or (outputs_in circuit) i 0 < circuit.made
  lower i l = omega (arith, made-is feeds.held, feeds.fed.accepted.outputs_made i l)

  pub gives_of : Gives circuit done bytes
  gives_of =
      record {
        given = feeds.held.given;
        outputs = feeds.held.outputs;
        size = feeds.size;
        made =
            λ i l.
            omega
            (arith, feeds.held.room.made, r.kept, get_or-take circuit.given circuit.outputs i 0 l, lower i (omega (arith, given_is feeds.held)));
      }

  pub outputs-plain : tab (length (outputs_in circuit)) (λ i. get_or done (get_or (outputs_in circuit) i 0) 0) ≡ plain_outputs file (wires_in circuit) (outputs_in circuit) values
  unfolding plain_outputs plain_values
  outputs-plain =
      tab_ext (length (outputs_in circuit)) (λ i. get_or done (get_or (outputs_in circuit) i 0) 0) (λ i. get_or (plain_to file (wires_in circuit) values (length (wires_in circuit))) (get_or (outputs_in circuit) i 0) 0)
      (λ i l.
      sym (get_or-take circuit.made done (get_or (outputs_in circuit) i 0) 0 (lower i l))
      ∙ ap (λ (xs : List ℕ). get_or xs (get_or (outputs_in circuit) i 0) 0) (r.front ∙ ap (plain_to file (wires_in circuit) values) (sym (made-is feeds.held))))
