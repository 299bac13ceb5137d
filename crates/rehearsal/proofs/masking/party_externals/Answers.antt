-- `rehearsal::party_externals` meets its contract: picked, asked, scattered. Assumes nothing.
use mathlib.Core.Path.{sym, ◌∙◌}
use native.Mathlib.Omega.{arith}
use Rattle.calls.proofs.OwnInputs.{own-length}
use Rattle.circuit.specs.Held.{wires_in}
use Rattle.rehearsal.proofs.Asked.{party-ends}
use borrow.Author.Rules.{rules}
use Rattle.rehearsal.proofs.masking.party_externals.Goals as goal

pub returns : goal.returns
returns c = let a = c.args in party-ends c.requires.0 a.file.now a.n a.party c.inputs_of-count.result a.values.now a.masks.now a.externals.now c.ask-answer.new.out c.requires.1 (c.inputs_of-count.ensures.is ∙ sym (own-length a.party (wires_in a.circuit))) (omega (arith, c.inputs_of-count.ensures.most)) c.picked-own.ensures c.picked-hidden.ensures c.blank-mine.ensures c.ask-answer.ensures c.scatter.ensures
