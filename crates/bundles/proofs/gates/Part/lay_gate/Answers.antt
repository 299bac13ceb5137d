-- `bundles::gates::Part::lay_gate`: its first word, and the entries behind it. Assumes nothing.
use mathlib.Core.Path.{sym}
use native.Mathlib.Omega.{arith}
use lib.ListN.{take}
use Rattle.bundles.proofs.Laid.{zeros_few, zeros_long, part-long, zeros_are, first_fits, gate-laid, gate-length}
use Rattle.bundles.proofs.gates.Part.lay_gate.Goals as goal

pub slice_bounds-put_entries-end : goal.slice_bounds-put_entries-end
slice_bounds-put_entries-end c =
    omega (arith, zeros_few c.args.self.operation c.args.i c.requires.0 c.args.self.few c.zeros_after-count.ensures, zeros_long c.zeros.ensures)

pub slice_bounds-put_entries-end-2 : goal.slice_bounds-put_entries-end-2
slice_bounds-put_entries-end-2 c =
    sym
    (part-long {images = c.zeros.result} c.zeros_after-count.result
    (zeros_few c.args.self.operation c.args.i c.requires.0 c.args.self.few c.zeros_after-count.ensures) c.zeros.ensures)

pub overflow_add-result-2 : goal.overflow_add-result-2
overflow_add-result-2 c = omega (arith, c.requires.1, zeros_few c.args.self.operation c.args.i c.requires.0 c.args.self.few c.zeros_after-count.ensures)

pub returns : goal.returns
returns c = let few = zeros_few c.args.self.operation c.args.i c.requires.0 c.args.self.few c.zeros_after-count.ensures in
    let a = c.args in (
      omega (arith, c.zeros_after-count.ensures, gate-length a.self.operation a.self.a a.i),
      gate-laid a.self.operation a.self.a a.i a.at a.file.now (take c.zeros_after-count.result c.zeros.result) (first_fits a.self.operation a.self.a a.i c.requires.0 a.self.few a.self.placed)
          c.first_item.ensures
          c.encode.ensures
          c.put_word.ensures
          (zeros_are a.self.operation a.i few c.zeros.ensures c.zeros_after-count.ensures)
          c.put_entries.ensures,
    )
