-- `writer::steps::begin` meets its contract.
-- Assumes nothing.
use mathlib.Core.Path.{ap, ◌∙◌}
use mathlib.Core.Bool.{cond}
use Prim.Native.Nat.{ℕ}
use Rattle.writer.specs.Desk.{put_word}
use Rattle.writer.proofs.steps.begin.Goals as goal

pub returns : goal.returns
returns c = record {
  pen_is = c.pen_of.ensures;
  file_is = c.lay_word.ensures ∙ ap (λ (w : ℕ). cond c.args.lay (put_word c.args.file.now 0 w) c.args.file.now) c.encode.ensures;
}
