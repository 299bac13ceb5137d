-- What checks come to, as C has it: number and place, and what a lent number holds.
-- Assumes nothing.
use mathlib.Core.Path.{◌≡◌, refl, sym, ap, ◌∙◌}
use mathlib.Core.List.{List}
use Prim.Native.Nat.{ℕ}
use Rattle.std.specs.Prelude.{Result, Ok, Err, IfOk, IfErr}
use Rattle.checks.specs.declared.Refused.{Refused}
use Rattle.checks.specs.Answer.{Answer, number_of, accepts, answer_of}
use Rattle.checks.specs.Checked.{Reports, afterwards}
use Rattle.checks.proofs.Answers.{afterwards-refused, told}
use Rattle.checks.proofs.Passed.{afterwards_passed}
use Rattle.circuit.specs.File.{read_file}
use Rattle.read_calls.specs.declared.summary.Summary.{Summary}
use Rattle.read_calls.specs.Summary.{Summarizes}
use Rattle.read_calls.specs.Read.{ReadCall}
use Rattle.pair.specs.Count.{pair_rows_in}
use Rattle.pair.specs.Bytes.{pair_file_checked}
use Rattle.pair.specs.Read.{PairReadCall}
use Rattle.pair_calls.specs.Counted.{CountsRows}
use Rattle.writer.specs.Closing.{words_told, Tells}
use Rattle.engine.specs.Told.{value_told, Told}

-- what a call that gives a value answers, from what it ensures of the value and of a refusal
pub answered : {A : Type 0} {checks : Answer} (found : Result A Refused) (P : A → Type 0) → IfOk found P → ((value : A) → P value → checks ≡ accepts)
    → IfErr found (λ why. checks ≡ Err why) → answer_of found ≡ checks
answered (Ok value) P p accepted q = sym (accepted value p)
answered (Err why) P p accepted q = sym q

-- what C is told of it
module _ {A : Type 0} {found : Result A Refused} {before after : A} {number place : ℕ} (t : Told found before number place after) where
  pub reported : {checks : Answer} → answer_of found ≡ checks → Reports checks number place
  reported m = told m t.number_is t.place_is

  value_is : (found : Result A Refused) (new : A) → IfOk found (λ value. value ≡ new) → value_told found before ≡ afterwards (answer_of found) new before
  value_is (Ok value) new e = e ∙ sym (afterwards_passed refl new before)
  value_is (Err why) new e = afterwards-refused refl new before

  pub after_call : {checks : Answer} (new : A) → answer_of found ≡ checks → IfOk found (λ value. value ≡ new) → after ≡ afterwards checks new before
  after_call {checks} new m e = t.after_is ∙ value_is found new e ∙ ap (λ (c : Answer). afterwards c new before) m

-- reading a circuit
module _ (file : List ℕ) (wires inputs outputs rows moduli keys : ℕ) {number place : ℕ} where
  pub read_accepted : {found : Summary} → Summarizes file found → (number ≡ 0) × (place ≡ 0)
      → ReadCall file wires inputs outputs rows moduli keys number place
      found.wires found.inputs found.outputs found.rows found.moduli found.records
  read_accepted k f =
      record {
        answer = told (sym k.accepted) f.0 f.1;
        wires_is = k.wires ∙ sym (afterwards_passed k.accepted _ wires);
        inputs_is = k.inputs ∙ sym (afterwards_passed k.accepted _ inputs);
        outputs_is = k.outputs ∙ sym (afterwards_passed k.accepted _ outputs);
        rows_is = k.rows ∙ sym (afterwards_passed k.accepted _ rows);
        moduli_is = k.moduli ∙ sym (afterwards_passed k.accepted _ moduli);
        record_keys_is = k.records ∙ sym (afterwards_passed k.accepted _ keys);
      }

  pub read_refused : {why : Refused} → (read_file file).answer ≡ Err why → (number ≡ number_of why.reason) × (place ≡ why.place)
      → ReadCall file wires inputs outputs rows moduli keys number place wires inputs outputs rows moduli keys
  read_refused e f =
      record {
        answer = told (sym e) f.0 f.1;
        wires_is = afterwards-refused e _ wires;
        inputs_is = afterwards-refused e _ inputs;
        outputs_is = afterwards-refused e _ outputs;
        rows_is = afterwards-refused e _ rows;
        moduli_is = afterwards-refused e _ moduli;
        record_keys_is = afterwards-refused e _ keys;
      }

-- reading a circuit for two
module _ (file : List ℕ) (rows : ℕ) {number place : ℕ} where
  pub pair-accepted : {found : ℕ} → CountsRows file found → (number ≡ 0) × (place ≡ 0) → PairReadCall file rows number place found
  pair-accepted k f = record { answer = told (sym k.accepted) f.0 f.1; rows_is = k.rows_is ∙ sym (afterwards_passed k.accepted _ rows) }

  pub pair-refused : {why : Refused} → pair_file_checked file ≡ Err why → (number ≡ number_of why.reason) × (place ≡ why.place)
      → PairReadCall file rows number place rows
  pair-refused e f = record { answer = told (sym e) f.0 f.1; rows_is = afterwards-refused e (pair_rows_in (read_file file).wires) rows }

-- what is told of a file that was written
words_so : (found : Result ℕ Refused) (before : ℕ) → value_told found before ≡ words_told found before
words_so (Ok n) before = refl
words_so (Err why) before = refl

pub words_tell : {found : Result ℕ Refused} {before number place after : ℕ} → Told found before number place after → Tells found before number place after
words_tell {found} {before} t = record { number_is = t.number_is; place_is = t.place_is; words_is = t.after_is ∙ words_so found before }
