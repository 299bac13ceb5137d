-- `pair_checks::units_checked` meets its contract: a loop that looks for the first modulus, refused there. Assumes nothing.
use mathlib.Core.Path.{sym, ◌∙◌}
use Rattle.lists.proofs.Search.{looking_on, looking_found}
use Rattle.checks.proofs.Answers.{refused_at}
use Rattle.circuit.specs.Held.{wires_in}
use Rattle.pair_checks.proofs.Marks.{marked_is, marked_inside, marked_same, marked_found}
use Rattle.pair_checks.proofs.Named.{units_found, units_none}
use Rattle.pair_checks.proofs.units.units_checked.Goals as goal

pub marked_not_one-requires : goal.marked_not_one-requires
marked_not_one-requires c = marked_inside c.args.k (wires_in c.args.circuit) c.args.draw.now c.requires.room.1.0 c.requires.draw_len
    c.marks-marks.ensures c.ranks-ranks.ensures c.loop-p.p c.loop-p-test.true c.from.ensures

pub returns-then-marked_not_one : goal.returns-then-marked_not_one
returns-then-marked_not_one c = refused_at c.at.ensures ∙ units_found c.args.k (wires_in c.args.circuit) c.args.draw.now
    (looking_found
    (marked_found c.args.k (wires_in c.args.circuit) c.args.draw.now c.requires.room.1.0 c.requires.draw_len
    c.marks-marks.ensures c.ranks-ranks.ensures c.loop-p.invariant)
    c.loop-p-test.true
    (sym (marked_same c.args.k (wires_in c.args.circuit) c.args.draw.now c.requires.room.1.0 c.requires.draw_len
    c.marks-marks.ensures c.ranks-ranks.ensures c.loop-p.p c.loop-p-test.true)
    ∙ marked_is c.args.k c.marks-marks.result c.ranks-ranks.result c.args.draw.now c.loop-p.p c.from.ensures
    c.marked_not_one.ensures
    ∙ c.if-marked_not_one.true))
    c.loop-p-test.true

pub loop-p-preserved : goal.loop-p-preserved
loop-p-preserved c = looking_on c.loop-p.invariant c.loop-p-test.true
    (marked_is c.args.k c.marks-marks.result c.ranks-ranks.result c.args.draw.now c.loop-p.p c.from.ensures
    c.marked_not_one.ensures
    ∙ c.if-marked_not_one.false)

pub returns : goal.returns
returns c = units_none c.args.k (wires_in c.args.circuit) c.args.draw.now
    (marked_found c.args.k (wires_in c.args.circuit) c.args.draw.now c.requires.room.1.0 c.requires.draw_len
    c.marks-marks.ensures c.ranks-ranks.ensures c.loop-p.invariant)
    c.loop-p-test.false
