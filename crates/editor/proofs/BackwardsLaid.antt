-- The writer in step with a reader: its draft at an index of the file is known outright, and an item whose word stands there takes it to the draft at the next
-- index; with what a record comes to by its items.
-- Assumes nothing.
use mathlib.Core.Path.{◌≡◌, refl, sym, ap, ap₂, ◌∙◌}
use mathlib.Core.Bool.{true}
use mathlib.Core.List.{List, [], ◌∷◌, ◌++◌, map-append}
use Prim.Native.Nat.{ℕ, suc}
use lib.ListN.{length}
use Rattle.lists.specs.Blocks.{blocks, tab}
use Rattle.lists.proofs.Blocks.{length-tab}
use Rattle.words.specs.Bits.{word_at}
use Rattle.words.specs.Items.{judged, output_due}
use Rattle.words.specs.Encode.{word_of}
use Rattle.words.specs.declared.gate.Wire.{Wire}
use Rattle.words.specs.declared.gate.Due.{Due}
use Rattle.words.specs.declared.gate.Due.TheVariants.{Inputs, Gates, Outputs, Entries, Branches}
use Rattle.words.specs.declared.gate.Step.{Step}
use Rattle.words.specs.declared.gate.Step.TheVariants.{Makes, Goes, Gives, Ends}
use Rattle.words.specs.declared.item.Item.{Item}
use Rattle.circuit.specs.Wires.{moduli_of}
use Rattle.circuit.proofs.State.{not-true}
use Rattle.circuit.proofs.More.{length_more}
use Rattle.writer.specs.declared.entry.Record.{Record}
use Rattle.writer.specs.Says.{items, speech_of}
use Rattle.writer.specs.Written.{Draft, Drafted, drafted, leaving, after_item, laid, unless_stopped, laid_all, whole, said_to, recorded}

-- the draft where the reader stands at an index, with these wires and outputs so far and these table entries left
abbrev pub draft_at : List ℕ → ℕ → Due → List Wire → List ℕ → List ℕ → Draft
draft_at file at due wires outputs tables =
    record { moduli = moduli_of wires; given = length outputs; due = due; tables = tables; words = tab at (word_at file) }

-- items laid down, and the table whole
abbrev pub laid_whole : Draft → List Item → Drafted
laid_whole d says = unless_stopped (laid_all d says) (λ e. whole e e.due)

-- an item at an index, whose word stands there
module _ (file : List ℕ) (at : ℕ) (due : Due) (wires : List Wire) (outputs tables : List ℕ) (x : Item) where
  laid_as :
      (s : Step) → judged (moduli_of wires) (length outputs) at due x ≡ s
      → laid (draft_at file at due wires outputs tables) x ≡ after_item (draft_at file at due wires outputs tables) x s
  laid_as s e =
      ap (λ (n : ℕ). after_item (draft_at file at due wires outputs tables) x (judged (moduli_of wires) (length outputs) n due x)) (length-tab at (word_at file))
      ∙ ap (after_item (draft_at file at due wires outputs tables) x) e

  module _ (stands : word_at file at ≡ word_of x) where
    one_word : tab at (word_at file) ++ (word_of x ∷ []) ≡ tab (suc at) (word_at file)
    unfolding blocks
    one_word = ap (λ (w : ℕ). tab at (word_at file) ++ (w ∷ [])) (sym stands)

    pub laid_makes :
        (wire : Wire) (next : Due)
        → judged (moduli_of wires) (length outputs) at due x ≡ Makes wire next
        → laid (draft_at file at due wires outputs tables) x ≡ drafted (draft_at file (suc at) next (wires ++ (wire ∷ [])) outputs tables)
    unfolding after_item
    laid_makes wire next e =
        laid_as (Makes wire next) e
        ∙ ap₂ (λ (m ws : List ℕ). drafted (record { moduli = m; given = length outputs; due = next; tables = tables; words = ws }))
        (sym (map-append (λ (w : Wire). w.modulus) wires (wire ∷ []))) one_word

    pub laid_goes :
        (next : Due)
        → judged (moduli_of wires) (length outputs) at due x ≡ Goes next
        → laid (draft_at file at due wires outputs tables) x ≡ drafted (draft_at file (suc at) next wires outputs tables)
    unfolding after_item
    laid_goes next e =
        laid_as (Goes next) e
        ∙ ap (λ (ws : List ℕ). drafted (record { moduli = moduli_of wires; given = length outputs; due = next; tables = tables; words = ws })) one_word

    pub laid_gives :
        (wire : ℕ)
        → judged (moduli_of wires) (length outputs) at due x ≡ Gives wire
        → laid (draft_at file at due wires outputs tables) x ≡ drafted (draft_at file (suc at) Outputs wires (outputs ++ (wire ∷ [])) tables)
    unfolding after_item
    laid_gives wire e =
        laid_as (Gives wire) e
        ∙ ap₂ (λ (n : ℕ) (ws : List ℕ). drafted (record { moduli = moduli_of wires; given = n; due = Outputs; tables = tables; words = ws }))
        (sym (length_more outputs wire)) one_word

    pub laid-ends :
        judged (moduli_of wires) (length outputs) at due x ≡ Ends
        → laid (draft_at file at due wires outputs tables) x ≡ drafted (draft_at file (suc at) due wires outputs tables)
    unfolding after_item
    laid-ends e =
        laid_as Ends e
        ∙ ap (λ (ws : List ℕ). drafted (record { moduli = moduli_of wires; given = length outputs; due = due; tables = tables; words = ws })) one_word

-- a record by what it says
pub recorded_as :
    (d : Draft) (r : Record) (says : List Item) (left : List ℕ)
    → speech_of d.moduli d.tables r ≡ items says left
    → recorded d r ≡ laid_whole (leaving d left) says
unfolding said_to
recorded_as d r says left e = ap (said_to d) e

-- one item of several, and the last
pub laid-first :
    (d e : Draft) (x : Item) (others : List Item) → laid d x ≡ drafted e → laid_whole d (x ∷ others) ≡ laid_whole e others
unfolding unless_stopped laid_all
laid-first d e x others l = ap (λ (s : Drafted). unless_stopped (unless_stopped s (λ f. laid_all f others)) (λ f. whole f f.due)) l

whole_here : (d : Draft) (due : Due) → output_due due ≡ true → whole d due ≡ drafted d
unfolding whole
whole_here d Inputs e = refl
whole_here d Gates e = refl
whole_here d Outputs e = refl
whole_here d (Entries left modulus) e = not-true e
whole_here d (Branches bit) e = not-true e

pub laid_none : (e : Draft) → output_due e.due ≡ true → laid_whole e [] ≡ drafted e
unfolding unless_stopped laid_all
laid_none e here = whole_here e e.due here

pub laid_last : (d e : Draft) (x : Item) → laid d x ≡ drafted e → output_due e.due ≡ true → laid_whole d (x ∷ []) ≡ drafted e
laid_last d e x l here = laid-first d e x [] l ∙ laid_none e here
