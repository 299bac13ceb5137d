-- `lupiknam_inputs_of` meets its contract: accepted, the count; refused, the number as it was. Assumes nothing.
use Prim.Native.Nat.{ℕ}
use Rattle.std.proofs.lemmas.Result.{IfOk-weaker}
use Rattle.read_calls.specs.InputsOf.{CountsInputs, inputs_of_after}
use Rattle.engine.proofs.Faces.{answered, reported, after_call}
use Rattle.engine.proofs.read.lupiknam_inputs_of.Goals as goal

pub returns : goal.returns
unfolding inputs_of_after
returns c = let a = c.args in
    let counts : ℕ → Type 0 = λ count. CountsInputs a.file.now a.n a.party count in
    let answer = answered c.inputs_of.result counts c.inputs_of.ensures.ok (λ count k. k.accepted) c.inputs_of.ensures.err in
    record {
      answer = reported c.tell.ensures answer;
      count_is = after_call c.tell.ensures _ answer (IfOk-weaker c.inputs_of.result counts _ (λ count k. k.is) c.inputs_of.ensures.ok);
    }
