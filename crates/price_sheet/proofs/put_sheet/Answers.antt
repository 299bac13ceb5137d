-- `price_sheet::put_sheet` meets its contract.
-- Assumes nothing.
use Rattle.price_sheet.proofs.Sheet.{sheet_of}
use Rattle.price_sheet.proofs.put_sheet.Goals as goal

pub returns : goal.returns
returns g c = sheet_of c.write_all.result _ _ _ _ c.in_ok-n.ensures.front c.price_list-length.ensures c.write_all.ensures.bytes
