-- `writer::table::all_below`: what is left to judge comes to the same. Assumes nothing.
use Rattle.std.proofs.Common.{◌≡◌, ◌&&◌, drop}
use Rattle.writer.specs.Desk.{all_below}
use Rattle.writer.proofs.table.all_below.Given as goal

abbrev pub invariant-loop-image : goal.invariant-loop-image
invariant-loop-image l = (l.good && all_below l.modulus (drop l.image-index l.images)) ≡ all_below l.modulus l.images
