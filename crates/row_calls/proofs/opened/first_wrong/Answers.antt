-- `row_calls::first_wrong` meets its contract: the front of the work memory is lent. Assumes nothing.
use mathlib.Core.Path.{sym}
use native.Mathlib.Omega.{arith}
use Rattle.row_calls.proofs.Opens.{own_room, work_cut}
use Rattle.row_calls.proofs.opened.first_wrong.Goals as goal

pub overflow_mul-bytes : goal.overflow_mul-bytes
overflow_mul-bytes c = omega (arith, own_room c.requires)

pub slice_bounds-work-end : goal.slice_bounds-work-end
slice_bounds-work-end c = omega (arith, own_room c.requires)

pub slice_bounds-first_unlike-end : goal.slice_bounds-first_unlike-end
slice_bounds-first_unlike-end c = sym (work_cut c.requires c.scratch-work.result c.scratch-work.ensures)

pub first_unlike-requires : goal.first_unlike-requires
first_unlike-requires c = record { given = c.requires; own_len = work_cut c.requires c.scratch-work.result c.scratch-work.ensures }
