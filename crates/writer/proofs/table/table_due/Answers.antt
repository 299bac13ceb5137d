-- `writer::table::table_due` meets its contract: the entries that are there, and whether there are enough.
-- Assumes nothing.
use native.Mathlib.Omega.{arith}
use Rattle.writer.proofs.Tables.{all_ahead, all_there, none_ahead, out_of_range, some_ahead, too_few}
use Rattle.writer.proofs.table.table_due.Goals as goal

pub returns-then-n-taken : goal.returns-then-n-taken
returns-then-n-taken c moduli = let a = c.args in
    too_few a.lay a.place a.tables.now a.pen.now moduli a.file.now a.left a.modulus
    (none_ahead a.modulus a.tables.now a.pen.now.taken a.left c.if-n-taken.true) (omega arith) c.stop.ensures

pub returns-then-all_below : goal.returns-then-all_below
returns-then-all_below c moduli = let a = c.args in
    too_few a.lay a.place a.tables.now a.pen.now moduli a.file.now a.left a.modulus
    (all_ahead a.modulus a.tables.now a.pen.now.taken a.left c.all_below.ensures (omega arith) c.if-all_below.true) (omega arith) c.stop-then-all_below.ensures

pub returns-then-n-taken-2 : goal.returns-then-n-taken-2
returns-then-n-taken-2 c moduli = let a = c.args in
    out_of_range a.lay a.place a.tables.now a.pen.now moduli a.file.now a.left a.modulus
    (all_ahead a.modulus a.tables.now a.pen.now.taken a.left c.all_below.ensures (omega arith) c.if-all_below.false) c.stop-then-n-taken-2.ensures

pub returns-then-not-all_below : goal.returns-then-not-all_below
returns-then-not-all_below c moduli = let a = c.args in
    out_of_range a.lay a.place a.tables.now a.pen.now moduli a.file.now a.left a.modulus
    (some_ahead a.modulus a.tables.now a.pen.now.taken a.left (rw c.from-wanted.ensures at c.all_below-2.ensures) c.if-not-all_below.true) c.stop-then-not-all_below.ensures

pub returns : goal.returns
returns c moduli = let a = c.args in
    all_there a.lay a.place a.tables.now a.pen.now moduli a.file.now a.left a.modulus
    (some_ahead a.modulus a.tables.now a.pen.now.taken a.left (rw c.from-wanted.ensures at c.all_below-2.ensures) c.if-not-all_below.false)
    (omega arith) (rw c.from-wanted.ensures at c.go_on.ensures) (rw c.from-wanted.ensures at c.lay_entries.ensures)
