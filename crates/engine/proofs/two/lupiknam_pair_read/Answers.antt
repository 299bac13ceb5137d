-- `lupiknam_pair_read` meets its contract: accepted, the rows; refused, the number as it was. Assumes nothing.
use Prim.Native.Nat.{ℕ}
use Rattle.std.proofs.lemmas.Result.{IfOk-weaker}
use Rattle.pair_calls.specs.Counted.{CountsRows}
use Rattle.engine.proofs.Faces.{answered, reported, after_call}
use Rattle.engine.proofs.two.lupiknam_pair_read.Goals as goal

pub returns : goal.returns
returns c = let counts : ℕ → Type 0 = λ rows. CountsRows c.args.file.now rows in
    let answer = answered c.pair_read.result counts c.pair_read.ensures.ok (λ rows k. k.accepted) c.pair_read.ensures.err in
    record {
      answer = reported c.tell.ensures answer;
      rows_is = after_call c.tell.ensures _ answer (IfOk-weaker c.pair_read.result counts _ (λ rows k. k.rows_is) c.pair_read.ensures.ok);
    }
