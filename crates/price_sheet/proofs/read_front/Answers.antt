-- `price_sheet::read_front` meets its contract: each read stands behind those before it.
-- Assumes nothing.
use Rattle.std.proofs.Common.{rules}
use Rattle.std.proofs.KnownBytes.{Consumes-trans}
use Rattle.price_sheet.proofs.Sheet.{read_behind}
use Rattle.price_sheet.proofs.read_front.Goals as goal

pub loop-done-preserved : goal.loop-done-preserved
loop-done-preserved g c = (search rules, rw (read_behind _ _ _ _ _ c.loop-done.invariant.0 c.in_ok-n.ensures.bound.0) (Consumes-trans _ _ _ _ _ c.loop-done.invariant.1 c.in_ok-n.ensures.bytes.0))
