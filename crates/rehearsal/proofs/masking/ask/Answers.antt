-- `rehearsal::ask` meets its contract: the call is made on the fronts of the arrays. Assumes nothing.
use mathlib.Core.Path.{sym}
use lib.Seq.{length-take-le}
use Rattle.rehearsal.proofs.Asked.{ask_ends}
use borrow.Author.Rules.{rules}
use Rattle.rehearsal.proofs.masking.ask.Goals as goal

pub slice_bounds-lupiknam_externals-end-2 : goal.slice_bounds-lupiknam_externals-end-2
slice_bounds-lupiknam_externals-end-2 c = sym (length-take-le c.args.count c.args.out.now c.requires.1.1)

pub returns : goal.returns
returns c = let a = c.args in ask_ends a.file.now a.n a.party a.count a.values.now a.masks.now a.out.now c.requires.1.1 c.piece-own.ensures.0 c.piece-hidden.ensures.0 c.lupiknam_externals.auto.externals c.lupiknam_externals.ensures
