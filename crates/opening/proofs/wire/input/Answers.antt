-- `opening::input` meets its contract: the keys are copied and the external value is read. Assumes nothing.
use Rattle.opening.proofs.Turns.{made-given}
use Rattle.opening.proofs.wire.input.Goals as goal

pub returns : goal.returns
returns c = made-given c.args.turn c.args.externals.now c.args.keys.now c.requires.input_ready.below c.nth_piece.ensures.0 c.copy_from_slice.ensures.after
