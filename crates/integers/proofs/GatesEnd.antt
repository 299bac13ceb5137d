-- Where the gates of an accepted file end: before as many words as it has outputs, and the end word. There the reader has made all wires and given no output.
-- Assumes nothing.
use mathlib.Core.Path.{◌≡◌, refl, sym, ap, subst, ◌∙◌}
use mathlib.Core.Bool.{Bool, true, false}
use mathlib.Core.List.{List, [], ◌∷◌, ◌++◌}
use Prim.Native.Nat.{ℕ, zero, suc, ◌+◌, ◌-◌, ◌*◌, ◌<◌}
use native.Mathlib.Omega.{arith}
use lib.Dec.{ltb, leb}
use lib.ListN.{length}
use borrow.Author.Tests.{leb-true, ltb-true}
use Rattle.residue.proofs.Table.{and_left}
use Rattle.checks.proofs.Passed.{never}
use Rattle.words.specs.Bits.{word_at}
use Rattle.words.specs.Items.{gate_due, output_due, after_entry}
use Rattle.words.specs.Reading.{read_word}
use Rattle.words.specs.declared.gate.Wire.{Wire}
use Rattle.words.specs.declared.gate.Due.{Due}
use Rattle.words.specs.declared.gate.Due.TheVariants.{Inputs, Gates, Outputs, Entries, Branches}
use Rattle.words.specs.declared.gate.Step.{Step}
use Rattle.words.specs.declared.gate.Step.TheVariants.{Refused, Makes, Goes, Gives, Ends}
use Rattle.circuit.specs.Wires.{moduli_of}
use Rattle.circuit.specs.File.{Read, words_in, ended, after, read_from, has_head, headed, read_file}
use Rattle.circuit.proofs.State.{not-true}
use Rattle.circuit.proofs.Word.{Did, did}
use Rattle.circuit.proofs.More.{length_more}
use Rattle.integers.specs.Reach.{Reach}
use Rattle.checks.specs.Answer.{accepts}

-- ---- behind the first output

abbrev early : Due → Bool
early Inputs = true
early Gates = true
early Outputs = false
early (Entries left modulus) = true
early (Branches bit) = true

-- what a word can do there
data Late : Step → Type 0 where
  stops : {s : Step} {reason : _} → s ≡ Refused reason → Late s
  gives : {wire : ℕ} → Late (Gives wire)
  ends : Late Ends

late : {moduli : List ℕ} {given at w : ℕ} {s : Step} → Did moduli given at Outputs w s → Late s
late Did.refused = Late.stops refl
late (Did.input room prime owner) = not-true room.due
late (Did.add room two) = not-true room.due
late (Did.multiply room two) = not-true room.due
late (Did.scale room lower some below) = not-true room.due
late (Did.project room prime lower) = not-true room.due
late (Did.entry e kind small) = not-true (ap early e)
late (Did.select room lower two) = not-true room.due
late (Did.branches e two) = not-true (ap early e)
late (Did.output here lower few) = Late.gives
late (Did.end here some) = Late.ends

-- so the wires stay, and each word but the end word gives an output
record Tail (file : List ℕ) (wires : List Wire) (outputs : List ℕ) (at : ℕ) (read : Read) : Type 0 where
  wires_are : read.wires ≡ wires
  count : at + suc (length read.outputs) ≡ words_in file + length outputs

at_end : (b : Bool) (file : List ℕ) (at : ℕ) (wires : List Wire) (outputs named : List ℕ)
    → leb (length file) (4 * suc at) ≡ b
    → at < words_in file
    → (ended b at wires outputs named).answer ≡ accepts
    → Tail file wires outputs at (ended b at wires outputs named)
unfolding ended
at_end true file at wires outputs named e l a = record { wires_are = refl; count = omega (arith, leb-true (length file) (4 * suc at) e) }
at_end false file at wires outputs named e l a = never a

module _ (file : List ℕ) (wires : List Wire) (at : ℕ) (inside : at < words_in file) (outputs : List ℕ) (then : Due → List Wire → List ℕ → Read)
    (rest : (outputs : List ℕ) → (then Outputs wires outputs).answer ≡ accepts → Tail file wires outputs (suc at) (then Outputs wires outputs)) where
  tail_step : {s : Step} → Late s → (after then file at wires outputs s).answer ≡ accepts → Tail file wires outputs at (after then file at wires outputs s)
  unfolding after
  tail_step (Late.stops {s} {reason} e) a = never (ap (λ (s : Step). (after then file at wires outputs s).answer) (sym e) ∙ a)
  tail_step (Late.gives {wire}) a =
      let t = rest (outputs ++ (wire ∷ [])) a in
      record { wires_are = t.wires_are; count = omega (arith, t.count, length_more outputs wire) }
  tail_step Late.ends a = at_end _ file at wires outputs _ refl inside a

tail : (file : List ℕ) (wires : List Wire) (left at : ℕ) (outputs : List ℕ)
    → at + left ≡ words_in file
    → (read_from file left at Outputs wires outputs).answer ≡ accepts
    → Tail file wires outputs at (read_from file left at Outputs wires outputs)
unfolding read_from
tail file wires zero at outputs e a = never a
tail file wires (suc left) at outputs e a =
    tail_step file wires at (omega arith) outputs (read_from file left (suc at)) (λ outputs a. tail file wires left (suc at) outputs (omega arith) a)
    (late (did (moduli_of wires) (length outputs) at Outputs (word_at file at))) a

-- ---- the end of the gates

pub record Ended (file : List ℕ) (read : Read) : Type 0 where
  pub at : ℕ
  pub due : Due
  pub here : gate_due due ≡ true
  pub reach : Reach file at due read.wires []
  pub count : at + suc (length read.outputs) ≡ words_in file

gate-due : (due : Due) → early due ≡ true → output_due due ≡ true → gate_due due ≡ true
gate-due Inputs e o = refl
gate-due Gates e o = refl
gate-due Outputs e o = e
gate-due (Entries left modulus) e o = o
gate-due (Branches bit) e o = o

early_entry : (left modulus : ℕ) → early (after_entry left modulus) ≡ true
unfolding after_entry
early_entry zero modulus = refl
early_entry (suc zero) modulus = refl
early_entry (suc (suc others)) modulus = refl

module _ (file : List ℕ) (left at : ℕ) (count : at + suc left ≡ words_in file) (due : Due) (fresh : early due ≡ true) (wires : List Wire) (reach : Reach file at due wires [])
    (rest : (due : Due) (wires : List Wire) → early due ≡ true → Reach file (suc at) due wires [] → (read_from file left (suc at) due wires []).answer ≡ accepts
    → Ended file (read_from file left (suc at) due wires [])) where
  abbrev Found : Step → Type 0
  Found s =
      read_word (moduli_of wires) 0 at due (word_at file at) ≡ s
      → (after (read_from file left (suc at)) file at wires [] s).answer ≡ accepts
      → Ended file (after (read_from file left (suc at)) file at wires [] s)

  made : (wire : Wire) (next : Due) → early next ≡ true → Found (Makes wire next)
  unfolding after
  made wire next f e a = rest next (wires ++ (wire ∷ [])) f (Reach.makes reach e) a

  gone : (next : Due) → early next ≡ true → Found (Goes next)
  unfolding after
  gone next f e a = rest next wires f (Reach.goes reach e) a

  given : (wire : ℕ) → output_due due ≡ true → Found (Gives wire)
  unfolding after
  given wire o e a =
      let t = tail file wires left (suc at) (wire ∷ []) (omega arith) a in
      record {
        at = at;
        due = due;
        here = gate-due due fresh o;
        reach = subst (λ (ws : List Wire). Reach file at due ws []) (sym t.wires_are) reach;
        count = omega (arith, t.count);
      }

  found : {s : Step} → Did (moduli_of wires) 0 at due (word_at file at) s → Found s
  unfolding after
  found Did.refused e a = never a
  found (Did.input room prime owner) e a = made _ Inputs refl e a
  found (Did.add room two) e a = made _ Gates refl e a
  found (Did.multiply room two) e a = made _ Gates refl e a
  found (Did.scale room lower some below) e a = made _ Gates refl e a
  found (Did.project room prime lower) e a = made _ (Entries _ _) refl e a
  found (Did.entry {left = left} {modulus} f kind small) e a = gone (after_entry left modulus) (early_entry left modulus) e a
  found (Did.select room lower two) e a = gone (Branches _) refl e a
  found (Did.branches f two) e a = made _ Gates refl e a
  found (Did.output here lower few) e a = given _ here e a
  found (Did.end here some) e a = absurd (omega (arith, some))

find : (file : List ℕ) (left at : ℕ) (due : Due) (wires : List Wire)
    → at + left ≡ words_in file
    → early due ≡ true
    → Reach file at due wires []
    → (read_from file left at due wires []).answer ≡ accepts
    → Ended file (read_from file left at due wires [])
unfolding read_from
find file zero at due wires e f r a = never a
find file (suc left) at due wires e f r a =
    found file left at e due f wires r (λ due wires f r a. find file left (suc at) due wires (omega arith) f r a)
    (did (moduli_of wires) 0 at due (word_at file at)) refl a

begun : (b : Bool) (file : List ℕ) → has_head file ≡ b → (headed b file).answer ≡ accepts → Ended file (headed b file)
unfolding headed
begun true file e a =
    find file (words_in file - 1) 1 Inputs [] (omega (arith, ltb-true 0 (words_in file) (and_left (ltb 0 (words_in file)) _ e))) refl (Reach.begun e) a
begun false file e a = never a

pub gates_end : (file : List ℕ) → (read_file file).answer ≡ accepts → Ended file (read_file file)
unfolding read_file
gates_end file a = begun (has_head file) file refl a
