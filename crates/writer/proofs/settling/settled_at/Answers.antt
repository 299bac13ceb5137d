-- `writer::settling::settled_at` meets its contract: one law a test.
-- Assumes nothing.
use mathlib.Core.Path.{refl, ap}
use native.Mathlib.Omega.{arith}
use Rattle.std.specs.Prelude.{Err}
use Rattle.checks.specs.declared.Refused.{Refused}
use Rattle.writer.proofs.Settles.{has_room, left_over, none-given, too_short}
use Rattle.writer.proofs.settling.settled_at.Goals as goal

pub returns-then-judged-eq0 : goal.returns-then-judged-eq0
returns-then-judged-eq0 c = let a = c.args in
    none-given a.judged a.tables a.file c.if-judged-eq0.true (ap (λ (w : Refused). Err w) c.at.ensures)

pub returns-then-judged-tables : goal.returns-then-judged-tables
returns-then-judged-tables c = let a = c.args in
    left_over a.judged a.tables a.file (omega arith) c.if-judged-tables.true (ap (λ (w : Refused). Err w) c.at-then-judged-tables.ensures)

pub returns-then-file-words : goal.returns-then-file-words
returns-then-file-words c = let a = c.args in
    too_short a.judged a.tables a.file (omega arith) (omega arith) c.if-file-words.true (ap (λ (w : Refused). Err w) c.at-then-file-words.ensures)

pub returns : goal.returns
returns c = let a = c.args in
    has_room a.judged a.tables a.file (omega arith) (omega arith) c.if-file-words.false refl
