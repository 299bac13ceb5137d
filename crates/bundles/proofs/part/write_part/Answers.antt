-- `bundles::part::write_part`: accepted, the words at the front of the buffer; refused, the buffer as it was. Assumes nothing.
use lib.ListN.{length}
use Rattle.checks.proofs.Answers.{passed_on}
use Rattle.bundles.proofs.Verdicts.{part_passed, part_placed, makes_laid, makes_refused}
use Rattle.bundles.proofs.part.write_part.Goals as goal

pub invariant_of-part : goal.invariant_of-part
invariant_of-part c = let a = c.args in
    let p = part_passed a.operation a.r a.first a.a (length a.file.now) c.part_checked.ensures c.in_ok-part_checked.was in
    record { few = p.range.ten; placed = part_placed p }

pub lay-requires : goal.lay-requires
lay-requires c = let a = c.args in
    (part_passed a.operation a.r a.first a.a (length a.file.now) c.part_checked.ensures c.in_ok-part_checked.was).room

pub returns-in_err-part_checked : goal.returns-in_err-part_checked
returns-in_err-part_checked c = makes_refused c.part_checked.ensures c.in_err-part_checked.was (passed_on c.from_residual.ensures.1)

pub returns : goal.returns
returns c = makes_laid c.part_checked.ensures c.in_ok-part_checked.was c.word_count.ensures.0 c.lay.ensures
