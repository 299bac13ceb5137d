-- `words::reading::read_word` meets its contract: each arm is told the word's kind, and whether the bits that must be zero are; it is what the word says,
-- judged, or nothing is said.
-- Assumes nothing.
use mathlib.Core.Path.{◌≡◌, refl, sym, ap, ◌∙◌}
use mathlib.Core.Bool.{Bool, true, false}
use mathlib.Core.List.{List}
use Prim.Native.Nat.{ℕ}
use lib.ListN.{get_or}
use Rattle.checks.specs.declared.Refusal.TheVariants.{UnknownWord}
use Rattle.words.specs.declared.item.Item.{Item}
use Rattle.words.specs.declared.gate.Due.{Due}
use Rattle.words.specs.Reading.{Nothing, said, by_kind, does, read_word}
use Rattle.words.specs.declared.gate.Step.TheVariants.{Refused}
use Rattle.words.specs.Bits.{kind}
use Rattle.words.specs.Items.{judged}
use borrow.Author.Rules.{rules}
use Rattle.words.proofs.Steps.{of_kind}
use Rattle.words.proofs.reading.read_word.Goals as goal

-- a word of a kind, where its bits are told
module _ (moduli : List ℕ) (given at : ℕ) (due : Due) (w : ℕ) (k : ℕ) {j : ℕ} (is : j ≡ kind w) (here : j ≡ k) where
  reads : {test : Bool} (item : Item) → get_or (by_kind w) k Nothing ≡ said test item → test ≡ true → judged moduli given at due item ≡ read_word moduli given at due w
  unfolding read_word said
  reads item g t = ap (λ (b : Bool). does moduli given at due (said b item)) (sym t) ∙ ap (does moduli given at due) (sym g ∙ of_kind w k (sym is ∙ here))

  unknown : {test : Bool} (item : Item) → get_or (by_kind w) k Nothing ≡ said test item → test ≡ false → Refused UnknownWord ≡ read_word moduli given at due w
  unfolding read_word said
  unknown item g t = ap (λ (b : Bool). does moduli given at due (said b item)) (sym t) ∙ ap (does moduli given at due) (sym g ∙ of_kind w k (sym is ∙ here))

pub returns-in-1 : goal.returns-in-1
returns-in-1 c = reads c.args.moduli.now c.args.given c.args.at c.args.due c.args.w 1 c.kind.ensures c.in-1.is _ refl (sym c.if-clear.ensures)

pub returns-in_default : goal.returns-in_default
returns-in_default c = unknown c.args.moduli.now c.args.given c.args.at c.args.due c.args.w 1 c.kind.ensures c.in-1.is _ refl (sym c.if-clear.ensures)

pub returns-in-2 : goal.returns-in-2
returns-in-2 c = simp (c.input_item.ensures, c.bits.ensures, c.bits-byte.ensures) (reads c.args.moduli.now c.args.given c.args.at c.args.due c.args.w 2 c.kind.ensures c.in-2.is _ refl (search rules))

pub returns-in_default-2 : goal.returns-in_default-2
returns-in_default-2 c = unknown c.args.moduli.now c.args.given c.args.at c.args.due c.args.w 2 c.kind.ensures c.in-2.is _ refl (search rules)

pub returns-in-3 : goal.returns-in-3
returns-in-3 c = simp (c.pair_item.ensures, c.bits-high.ensures, c.bits-low.ensures) (reads c.args.moduli.now c.args.given c.args.at c.args.due c.args.w 3 c.kind.ensures c.in-3.is _ refl (sym c.if-clear-3.ensures))

pub returns-in_default-3 : goal.returns-in_default-3
returns-in_default-3 c = unknown c.args.moduli.now c.args.given c.args.at c.args.due c.args.w 3 c.kind.ensures c.in-3.is _ refl (sym c.if-clear-3.ensures)

pub returns-in-4 : goal.returns-in-4
returns-in-4 c = simp (c.scale_item.ensures, c.bits-low.ensures, c.bits-middle.ensures) (reads c.args.moduli.now c.args.given c.args.at c.args.due c.args.w 4 c.kind.ensures c.in-4.is _ refl (sym c.if-clear-4.ensures))

pub returns-in_default-4 : goal.returns-in_default-4
returns-in_default-4 c = unknown c.args.moduli.now c.args.given c.args.at c.args.due c.args.w 4 c.kind.ensures c.in-4.is _ refl (sym c.if-clear-4.ensures)

pub returns-in-5 : goal.returns-in-5
returns-in-5 c = simp (c.pair_item-in-5.ensures, c.bits-high.ensures, c.bits-low.ensures) (reads c.args.moduli.now c.args.given c.args.at c.args.due c.args.w 5 c.kind.ensures c.in-5.is _ refl (sym c.if-clear-5.ensures))

pub returns-in_default-5 : goal.returns-in_default-5
returns-in_default-5 c = unknown c.args.moduli.now c.args.given c.args.at c.args.due c.args.w 5 c.kind.ensures c.in-5.is _ refl (sym c.if-clear-5.ensures)

pub returns-in-6 : goal.returns-in-6
returns-in-6 c = simp (c.project_item.ensures, c.bits-low.ensures, c.bits-middle.ensures) (reads c.args.moduli.now c.args.given c.args.at c.args.due c.args.w 6 c.kind.ensures c.in-6.is _ refl (sym c.if-clear-6.ensures))

pub returns-in_default-6 : goal.returns-in_default-6
returns-in_default-6 c = unknown c.args.moduli.now c.args.given c.args.at c.args.due c.args.w 6 c.kind.ensures c.in-6.is _ refl (sym c.if-clear-6.ensures)

pub returns-in-7 : goal.returns-in-7
returns-in-7 c = simp (c.entry_item.ensures, c.bits-byte.ensures) (reads c.args.moduli.now c.args.given c.args.at c.args.due c.args.w 7 c.kind.ensures c.in-7.is _ refl (sym c.if-clear-7.ensures))

pub returns-in_default-7 : goal.returns-in_default-7
returns-in_default-7 c = unknown c.args.moduli.now c.args.given c.args.at c.args.due c.args.w 7 c.kind.ensures c.in-7.is _ refl (sym c.if-clear-7.ensures)

pub returns-in-8 : goal.returns-in-8
returns-in-8 c = simp (c.select_item.ensures, c.bits-low.ensures) (reads c.args.moduli.now c.args.given c.args.at c.args.due c.args.w 8 c.kind.ensures c.in-8.is _ refl (sym c.if-clear-8.ensures))

pub returns-in_default-8 : goal.returns-in_default-8
returns-in_default-8 c = unknown c.args.moduli.now c.args.given c.args.at c.args.due c.args.w 8 c.kind.ensures c.in-8.is _ refl (sym c.if-clear-8.ensures)

pub returns-in-9 : goal.returns-in-9
returns-in-9 c = simp (c.branches_item.ensures, c.bits-high.ensures, c.bits-low.ensures) (reads c.args.moduli.now c.args.given c.args.at c.args.due c.args.w 9 c.kind.ensures c.in-9.is _ refl (sym c.if-clear-9.ensures))

pub returns-in_default-9 : goal.returns-in_default-9
returns-in_default-9 c = unknown c.args.moduli.now c.args.given c.args.at c.args.due c.args.w 9 c.kind.ensures c.in-9.is _ refl (sym c.if-clear-9.ensures)

pub returns-in-10 : goal.returns-in-10
returns-in-10 c = simp (c.output_item.ensures, c.bits-low.ensures) (reads c.args.moduli.now c.args.given c.args.at c.args.due c.args.w 10 c.kind.ensures c.in-10.is _ refl (sym c.if-clear-10.ensures))

pub returns-in_default-10 : goal.returns-in_default-10
returns-in_default-10 c = unknown c.args.moduli.now c.args.given c.args.at c.args.due c.args.w 10 c.kind.ensures c.in-10.is _ refl (sym c.if-clear-10.ensures)

pub returns-in-11 : goal.returns-in-11
returns-in-11 c = simp c.end_item.ensures (reads c.args.moduli.now c.args.given c.args.at c.args.due c.args.w 11 c.kind.ensures c.in-11.is _ refl (sym c.if-clear-11.ensures))

pub returns-in_default-11 : goal.returns-in_default-11
returns-in_default-11 c = unknown c.args.moduli.now c.args.given c.args.at c.args.due c.args.w 11 c.kind.ensures c.in-11.is _ refl (sym c.if-clear-11.ensures)
