-- `writer::table::lay_table` meets its contract: a table is due, or nothing happens.
-- Assumes nothing.
use mathlib.Core.Path.{refl}
use Rattle.writer.specs.Desk.{desk}
use Rattle.writer.proofs.Tables.{none-due, table_off, table_on_lem}
use Rattle.writer.proofs.table.lay_table.Goals as goal

pub returns-in-Err : goal.returns-in-Err
returns-in-Err c moduli = let a = c.args in table_off a.lay a.place a.tables.now (desk a.pen.now moduli a.file.now) c.in-Err.is

pub returns-in-Entries : goal.returns-in-Entries
returns-in-Entries c moduli = let a = c.args in
    table_on_lem a.lay a.place a.tables.now (desk a.pen.now moduli a.file.now) c.in_default.is c.in-Entries.is (c.table_due.ensures moduli)

pub returns-in_default-due : goal.returns-in_default-due
returns-in_default-due c moduli = let a = c.args in
    let d = desk a.pen.now moduli a.file.now in
    table_on_lem a.lay a.place a.tables.now d c.in_default.is refl (none-due a.lay a.place a.tables.now d a.pen.now.due c.in_default-due.not-Entries)
