-- `garbling::shown` meets its contract: the mask where the party may read the output, or 255. Assumes nothing.
use Rattle.garbling.proofs.Sheets.{shown_mask, shown_none}
use Rattle.garbling.proofs.handed.shown.Goals as goal

pub returns-then-may_read : goal.returns-then-may_read
returns-then-may_read c = shown_mask c.args.mask c.may_read.ensures c.if-may_read.true

pub returns-else-may_read : goal.returns-else-may_read
returns-else-may_read c = shown_none c.args.mask c.may_read.ensures c.if-may_read.false
