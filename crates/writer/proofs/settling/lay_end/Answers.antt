-- `writer::settling::lay_end` meets its contract.
-- Assumes nothing.
use mathlib.Core.Path.{ap, ◌∙◌}
use Prim.Native.Nat.{ℕ}
use Rattle.writer.specs.Desk.{put_word}
use Rattle.writer.proofs.settling.lay_end.Goals as goal

pub returns : goal.returns
returns c = c.lay_word.ensures ∙ ap (λ (w : ℕ). put_word c.args.file.now c.args.at w) c.encode.ensures
