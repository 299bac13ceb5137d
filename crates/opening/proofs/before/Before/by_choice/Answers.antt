-- `opening::by_choice` meets its contract: with and without a multiplier; a local has room for the difference. Assumes nothing.
use mathlib.Core.Path.{sym}
use Rattle.contribution.proofs.Sizes.{scratch_cut}
use Rattle.opening.proofs.Turns.{made_choice, made_none}
use Rattle.opening.proofs.before.Before.by_choice.Goals as goal

pub slice_bounds-held_back-end : goal.slice_bounds-held_back-end
slice_bounds-held_back-end c = sym (scratch_cut c.scratch-d.result c.requires.seated.0.sizes c.scratch-d.ensures)

pub held_back-found-requires : goal.held_back-found-requires
held_back-found-requires c = record { seated = (c.requires.seated.0, (record { size = scratch_cut c.scratch-d.result c.requires.seated.0.sizes c.scratch-d.ensures }, c.requires.seated.1)); choice_ready = c.requires.choice_ready }

pub returns-then-found-turn : goal.returns-then-found-turn
returns-then-found-turn c = made_choice c.args.turn c.args.lent.contribution.now c.args.lent.rows.now c.args.self.keys.now c.args.self.externals.now c.args.g c.held_back-found.ensures c.if-found-turn.true c.added.ensures

pub returns-else-found-turn : goal.returns-else-found-turn
returns-else-found-turn c = made_none c.args.turn c.args.lent.contribution.now c.args.lent.rows.now c.args.self.keys.now c.args.self.externals.now c.args.g c.held_back-found.ensures c.if-found-turn.false
