-- Where the reader has come to: reading on from there is reading the file; of an accepted file the wires stay, and no word is refused; and a file that begins with
-- the same words is read as far.
-- Assumes nothing.
use mathlib.Core.Path.{◌≡◌, sym, ap, ap₂, ◌∙◌}
use mathlib.Core.Bool.{Bool, true, false, ◌&&◌}
use mathlib.Core.List.{List, [], ◌∷◌, ◌++◌, append-nil, append_assoc}
use Prim.Native.Nat.{ℕ, zero, suc, ◌-◌, ◌≤◌, ◌<◌}
use native.Mathlib.Omega.{arith}
use lib.Dec.{ltb, eqb}
use lib.ListN.{length}
use borrow.Author.Tests.{lt-ltb}
use Rattle.residue.proofs.Table.{and_right}
use Rattle.checks.specs.declared.Refusal.{Refusal}
use Rattle.checks.proofs.Passed.{never}
use Rattle.words.specs.Bits.{word_at}
use Rattle.words.specs.Reading.{read_word}
use Rattle.words.specs.declared.gate.Wire.{Wire}
use Rattle.words.specs.declared.gate.Due.{Due}
use Rattle.words.specs.declared.gate.Step.{Step}
use Rattle.words.specs.declared.gate.Step.TheVariants.{Makes, Goes, Gives, Ends}
use Rattle.circuit.specs.Wires.{moduli_of}
use Rattle.circuit.specs.File.{Read, words_in, ended, after, read_from, headed, read_file}
use Rattle.circuit.proofs.Turn.{unrolled}
use Rattle.integers.specs.Reach.{Reach}
use Rattle.checks.specs.Answer.{accepts}

-- one word more
module _ (file : List ℕ) (at : ℕ) (due : Due) (wires : List Wire) (outputs : List ℕ) (inside : at < words_in file) where
  pub turned :
      {s : Step}
      → read_word (moduli_of wires) (length outputs) at due (word_at file at) ≡ s
      → read_from file (words_in file - at) at due wires outputs
      ≡ after (read_from file (words_in file - suc at) (suc at)) file at wires outputs s
  turned e =
      unrolled file (words_in file - at) (words_in file - suc at) at due wires outputs (omega arith)
      ∙ ap (after (read_from file (words_in file - suc at) (suc at)) file at wires outputs) e

-- reading on from there is reading the file
pub read_on :
    {file : List ℕ} {at : ℕ} {due : Due} {wires : List Wire} {outputs : List ℕ}
    → Reach file at due wires outputs
    → at ≤ words_in file
    → read_from file (words_in file - at) at due wires outputs ≡ read_file file
unfolding read_file headed after
read_on {file} (Reach.begun h) l = ap (λ (b : Bool). headed b file) (sym h)
read_on {file} (Reach.makes {at} {due} {next} {wires} {outputs} r e) l = sym (turned file at due wires outputs l e) ∙ read_on r (omega arith)
read_on {file} (Reach.goes {at} {due} {next} {wires} {outputs} r e) l = sym (turned file at due wires outputs l e) ∙ read_on r (omega arith)
read_on {file} (Reach.gives {at} {due} {wires} {outputs} r e) l = sym (turned file at due wires outputs l e) ∙ read_on r (omega arith)

-- a list that begins with another
pub record Longer {A : Type 0} (xs ys : List A) : Type 0 where
  pub more : List A
  pub is : ys ≡ xs ++ more

longer_than : {A : Type 0} (xs : List A) (x : A) {ys : List A} → Longer (xs ++ (x ∷ [])) ys → Longer xs ys
longer_than xs x l = record { more = x ∷ l.more; is = l.is ∙ append_assoc xs (x ∷ []) l.more }

pub itself : {A : Type 0} (xs : List A) → Longer xs xs
itself xs = record { more = []; is = sym (append-nil xs) }

-- of an accepted file the wires so far stay
abbrev Keeps : List Wire → Read → Type 0
Keeps wires read = read.answer ≡ accepts → Longer wires read.wires

at_end : (b : Bool) (at : ℕ) (wires : List Wire) (outputs named : List ℕ) → Keeps wires (ended b at wires outputs named)
unfolding ended
at_end true at wires outputs named e = itself wires
at_end false at wires outputs named e = never e

module _ (file : List ℕ) (at : ℕ) (wires : List Wire) (outputs : List ℕ) (then : Due → List Wire → List ℕ → Read)
    (rest : (due : Due) (wires : List Wire) (outputs : List ℕ) → Keeps wires (then due wires outputs)) where
  step_keeps : (s : Step) → Keeps wires (after then file at wires outputs s)
  unfolding after
  step_keeps (Step.Refused reason) e = never e
  step_keeps (Makes wire due) e = longer_than wires wire (rest due _ outputs e)
  step_keeps (Goes due) e = rest due wires outputs e
  step_keeps (Gives wire) e = rest _ wires _ e
  step_keeps Ends e = at_end _ at wires outputs _ e

keeps : (file : List ℕ) (left at : ℕ) (due : Due) (wires : List Wire) (outputs : List ℕ) → Keeps wires (read_from file left at due wires outputs)
unfolding read_from
keeps file zero at due wires outputs e = never e
keeps file (suc left) at due wires outputs e =
    step_keeps file at wires outputs (read_from file left (suc at)) (λ due wires outputs. keeps file left (suc at) due wires outputs) _ e

module _ {file : List ℕ} {at : ℕ} {due : Due} {wires : List Wire} {outputs : List ℕ} (r : Reach file at due wires outputs) (good : (read_file file).answer ≡ accepts) where
  pub wires_stay : at ≤ words_in file → Longer wires (read_file file).wires
  wires_stay l =
      let e = read_on r l in
      let k = keeps file (words_in file - at) at due wires outputs (ap (λ (read : Read). read.answer) e ∙ good) in
      record { more = k.more; is = sym (ap (λ (read : Read). read.wires) e) ∙ k.is }

  -- no word of it is refused
  pub not-refused : at < words_in file → {A : Type 0} {reason : Refusal} → read_word (moduli_of wires) (length outputs) at due (word_at file at) ≡ Step.Refused reason → A
  unfolding after
  not-refused l e =
      never (sym (ap (λ (read : Read). read.answer) (turned file at due wires outputs l e)) ∙ ap (λ (read : Read). read.answer) (read_on r (omega arith)) ∙ good)

-- two files with the same words before an index
pub record SameTo (file other : List ℕ) (at : ℕ) : Type 0 where
  pub word : (i : ℕ) → i < at → word_at other i ≡ word_at file i
  pub some : at ≤ words_in other

pub fewer : {file other : List ℕ} {at to : ℕ} → SameTo file other to → at ≤ to → SameTo file other at
fewer s h = record { word = λ i l. s.word i (omega arith); some = omega (arith, s.some) }

less : {file other : List ℕ} {at : ℕ} → SameTo file other (suc at) → SameTo file other at
less s = fewer s (omega arith)

read_there : (moduli : List ℕ) (given at : ℕ) (due : Due) {w w' : ℕ} {s : Step} → w' ≡ w → read_word moduli given at due w ≡ s → read_word moduli given at due w' ≡ s
read_there moduli given at due e f = ap (read_word moduli given at due) e ∙ f

pub moved :
    {file other : List ℕ} {at : ℕ} {due : Due} {wires : List Wire} {outputs : List ℕ}
    → Reach file at due wires outputs
    → SameTo file other at
    → Reach other at due wires outputs
moved {file} {other} (Reach.begun h) s =
    Reach.begun
    (ap₂ ◌&&◌ (lt-ltb 0 (words_in other) s.some) (ap (λ (w : ℕ). eqb w 0x1000_0000) (s.word 0 (omega arith)) ∙ and_right (ltb 0 (words_in file)) _ h))
moved (Reach.makes {at} {due} {next} {wires} {outputs} r e) s = Reach.makes (moved r (less s)) (read_there (moduli_of wires) (length outputs) at due (s.word at (omega arith)) e)
moved (Reach.goes {at} {due} {next} {wires} {outputs} r e) s = Reach.goes (moved r (less s)) (read_there (moduli_of wires) (length outputs) at due (s.word at (omega arith)) e)
moved (Reach.gives {at} {due} {wires} {outputs} r e) s = Reach.gives (moved r (less s)) (read_there (moduli_of wires) (length outputs) at due (s.word at (omega arith)) e)
