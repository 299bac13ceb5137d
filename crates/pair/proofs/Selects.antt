-- A file in which no word is of kind 8 has no select among its wires: a select is made by a branches word, which is due behind a word of kind 8 alone.
-- Assumes nothing.
use mathlib.Core.Path.{◌≡◌, refl, sym, ap, ◌∙◌}
use mathlib.Core.Bool.{Bool, true, false}
use mathlib.Core.List.{List, [], ◌∷◌, ◌++◌}
use Prim.Native.Nat.{ℕ, zero, suc, ◌+◌, ◌-◌, ◌≤◌, ◌<◌}
use native.Mathlib.Nat.{not-suc-le-zero}
use native.Mathlib.Omega.{arith}
use lib.Dec.{eqb, ltb}
use lib.ListN.{length}
use borrow.Author.Tests.{ltb-true}
use Rattle.residue.proofs.Table.{and_left}
use Rattle.checks.specs.declared.Refusal.{Refusal}
use Rattle.checks.specs.declared.Refusal.TheVariants.{SelectPresent}
use Rattle.checks.proofs.Passed.{none_bad_none}
use Rattle.words.specs.Bits.{kind, image, wire_a, wire_b, word_at}
use Rattle.words.specs.Items.{check, judged, after_entry, entry_item, branches_item}
use Rattle.words.specs.Reading.{said, does, read_word}
use Rattle.words.specs.declared.gate.Wire.{Wire}
use Rattle.words.specs.declared.item.Item.{Item}
use Rattle.words.specs.declared.gate.Due.{Due}
use Rattle.words.specs.declared.gate.Due.TheVariants.{Inputs, Gates, Outputs, Entries, Branches}
use Rattle.words.specs.declared.gate.Step.{Step}
use Rattle.words.specs.declared.gate.Step.TheVariants.{Refused, Makes, Goes, Gives, Ends}
use Rattle.circuit.specs.Wires.{wire_at, moduli_of}
use Rattle.circuit.specs.File.{Read, words_in, ended, after, read_from, headed, read_file}
use Rattle.circuit.proofs.More.{each, wire-kept, wire-new}
use Rattle.circuit.proofs.State.{not-true}
use Rattle.pair.specs.Bytes.{is_select_word, selects_checked}
use Rattle.pair.specs.Undone.{is_select, NoSelects}
use Rattle.checks.specs.Answer.{accepts}

-- ---- one word

-- no branches are due
abbrev plain : Due → Bool
plain Inputs = true
plain Gates = true
plain Outputs = true
plain (Entries left modulus) = true
plain (Branches bit) = false

-- what a word does that neither makes a select nor has branches due behind it
data Free : Step → Type 0 where
  stops : {reason : Refusal} → Free (Refused reason)
  makes : {wire : Wire} {due : Due} → is_select wire.gate ≡ false → plain due ≡ true → Free (Makes wire due)
  goes : {due : Due} → plain due ≡ true → Free (Goes due)
  gives : {a : ℕ} → Free (Gives a)
  ends : Free Ends

checked : {next : Step} (b : Bool) (reason : Refusal) → Free next → Free (check b reason next)
unfolding check
checked true reason f = f
checked false reason f = stops

after-plain : (left modulus : ℕ) → plain (after_entry left modulus) ≡ true
unfolding after_entry
after-plain zero modulus = refl
after-plain (suc zero) modulus = refl
after-plain (suc (suc left)) modulus = refl

entry_free : (due : Due) (v : ℕ) → Free (entry_item due v)
entry_free Inputs v = stops
entry_free Gates v = stops
entry_free Outputs v = stops
entry_free (Entries left modulus) v = checked _ _ (goes (after-plain left modulus))
entry_free (Branches bit) v = stops

branches_free : (moduli : List ℕ) (due : Due) (a b : ℕ) → plain due ≡ true → Free (branches_item moduli due a b)
branches_free moduli Inputs a b e = stops
branches_free moduli Gates a b e = stops
branches_free moduli Outputs a b e = stops
branches_free moduli (Entries left modulus) a b e = stops
branches_free moduli (Branches bit) a b e = not-true e

module _ (moduli : List ℕ) (given at : ℕ) (due : Due) where
  whether : (b : Bool) (item : Item) → Free (judged moduli given at due item) → Free (does moduli given at due (said b item))
  unfolding said
  whether true item f = f
  whether false item f = stops

  by-kind : (w k : ℕ) → kind w ≡ k → eqb k 8 ≡ false → plain due ≡ true → Free (read_word moduli given at due w)
  unfolding read_word
  by-kind w zero e n d = rw e stops
  by-kind w (suc zero) e n d = rw e (whether _ _ stops)
  by-kind w (suc (suc zero)) e n d = rw e (whether _ _ (checked _ _ (checked _ _ (checked _ _ (checked _ _ (makes refl refl))))))
  by-kind w (suc (suc (suc zero))) e n d = rw e (whether _ _ (checked _ _ (checked _ _ (checked _ _ (checked _ _ (makes refl refl))))))
  by-kind w (suc (suc (suc (suc zero)))) e n d = rw e (whether _ _ (checked _ _ (checked _ _ (checked _ _ (checked _ _ (makes refl refl))))))
  by-kind w (suc (suc (suc (suc (suc zero))))) e n d = rw e (whether _ _ (checked _ _ (checked _ _ (checked _ _ (checked _ _ (makes refl refl))))))
  by-kind w (suc (suc (suc (suc (suc (suc zero)))))) e n d = rw e (whether _ _ (checked _ _ (checked _ _ (checked _ _ (checked _ _ (makes refl refl))))))
  by-kind w (suc (suc (suc (suc (suc (suc (suc zero))))))) e n d = rw e (whether _ _ (entry_free due (image w)))
  by-kind w (suc (suc (suc (suc (suc (suc (suc (suc zero)))))))) e n d = not-true (sym n)
  by-kind w (suc (suc (suc (suc (suc (suc (suc (suc (suc zero))))))))) e n d = rw e (whether _ _ (branches_free moduli due (wire_a w) (wire_b w) d))
  by-kind w (suc (suc (suc (suc (suc (suc (suc (suc (suc (suc zero)))))))))) e n d = rw e (whether _ _ (checked _ _ (checked _ _ (checked _ _ gives))))
  by-kind w (suc (suc (suc (suc (suc (suc (suc (suc (suc (suc (suc zero))))))))))) e n d = rw e (whether _ _ (checked _ _ (checked _ _ ends)))
  by-kind w (suc (suc (suc (suc (suc (suc (suc (suc (suc (suc (suc (suc k)))))))))))) e n d = rw e stops

-- ---- the words of a file

nothing : NoSelects []
nothing = record { none = λ w h. absurd (not-suc-le-zero h) }

more : (wires : List Wire) (x : Wire) → NoSelects wires → is_select x.gate ≡ false → NoSelects (wires ++ (x ∷ []))
more wires x r e =
    record {
      none =
          each wires x (λ w. is_select (wire_at (wires ++ (x ∷ [])) w).gate ≡ false)
          (λ w h. ap (λ (wire : Wire). is_select wire.gate) (wire-kept wires (x ∷ []) w h) ∙ r.none w h)
          (ap (λ (wire : Wire). is_select wire.gate) (wire-new wires x) ∙ e);
    }

module _ (file : List ℕ) (at : ℕ) (wires : List Wire) (given : List ℕ) (then : Due → List Wire → List ℕ → Read) (none : NoSelects wires)
    (rest : (due : Due) (wires : List Wire) (given : List ℕ) → plain due ≡ true → NoSelects wires → NoSelects (then due wires given).wires) where
  finish : (b : Bool) (named : List ℕ) → NoSelects (ended b at wires given named).wires
  unfolding ended
  finish true named = none
  finish false named = nothing

  step : {s : Step} → Free s → NoSelects (after then file at wires given s).wires
  unfolding after
  step stops = nothing
  step (makes e d) = rest _ _ _ d (more wires _ none e)
  step (goes d) = rest _ _ _ d none
  step gives = rest _ _ _ refl none
  step ends = finish _ _

module _ (file : List ℕ) (free : (i : ℕ) → i < words_in file → is_select_word file i ≡ false) where
  from : (left at : ℕ) (due : Due) (wires : List Wire) (given : List ℕ) → at + left ≤ words_in file → plain due ≡ true → NoSelects wires
      → NoSelects (read_from file left at due wires given).wires
  unfolding read_from
  from zero at due wires given l d none = nothing
  from (suc left) at due wires given l d none =
      step file at wires given (read_from file left (suc at)) none
      (λ due' wires' given' d' none'. from left (suc at) due' wires' given' (omega arith) d' none')
      (by-kind (moduli_of wires) (length given) at due (word_at file at) (kind (word_at file at)) refl (free at (omega arith)) d)

  begun : (b : Bool) → (b ≡ true → 0 < words_in file) → NoSelects (headed b file).wires
  unfolding headed
  begun true h = from (words_in file - 1) 1 Inputs [] [] (omega (arith, h refl)) refl nothing
  begun false h = nothing

-- where check 26 passes, no wire is a select; a file that is refused has no wires at all
pub no_selects : (file : List ℕ) → selects_checked file ≡ accepts → NoSelects (read_file file).wires
unfolding read_file selects_checked
no_selects file e =
    begun file (none_bad_none (words_in file) (is_select_word file) SelectPresent e) _
    (λ t. ltb-true 0 (words_in file) (and_left (ltb 0 (words_in file)) _ t))
