-- The reader in step with the writer: over any file that begins with the words of a draft, reading them comes to where the writer stands, with wires of
-- the same moduli and as many outputs; and each further item, if the file goes on with its word, is read as it was judged.
-- Assumes nothing.
use mathlib.Core.Path.{◌≡◌, refl, sym, ap, ap₂, subst, ◌∙◌}
use mathlib.Core.Bool.{Bool, true, false, true≢false, ◌&&◌}
use mathlib.Core.List.{List, [], ◌∷◌, ◌++◌, map-append}
use Prim.Native.Nat.{ℕ, suc, ◌-◌, ◌≤◌, ◌<◌}
use native.Mathlib.Nat.{le_of_lt}
use native.Mathlib.Omega.{arith}
use lib.Dec.{ltb, lit≤}
use lib.ListN.{length, get_or}
use borrow.Author.Tests.{lt-ltb, ltb-true, eq-eqb}
use Rattle.words.specs.Bits.{word_at}
use Rattle.words.specs.Items.{judged, input_due, gate_due}
use Rattle.words.specs.Reading.{read_word}
use Rattle.words.specs.Encode.{word_of, file_of}
use Rattle.words.specs.Fits.{Fits}
use Rattle.words.specs.declared.gate.Wire.{Wire}
use Rattle.words.specs.declared.gate.Due.{Due}
use Rattle.words.specs.declared.gate.Due.TheVariants.{Inputs, Gates, Outputs, Entries, Branches}
use Rattle.words.specs.declared.gate.Step.{Step}
use Rattle.words.specs.declared.gate.Step.TheVariants.{Refused, Makes, Goes, Gives, Ends}
use Rattle.words.specs.declared.item.Item.{Item}
use Rattle.words.specs.declared.item.Item.TheVariants.{Head, Input, Add, Scale, Multiply, Project, Entry, Select, Output, End}
use Rattle.circuit.specs.Wires.{moduli_of}
use Rattle.circuit.specs.Accepted.{WireFits}
use Rattle.circuit.specs.File.{words_in, after, read_from, has_head, headed, read_file}
use Rattle.circuit.proofs.More.{made, modulus-of, length_more}
use Rattle.circuit.proofs.State.{State, Next, at-gates, next, nothing, within}
use Rattle.circuit.proofs.Turn.{unrolled}
use Rattle.writer.specs.Written.{Draft, drafted, blank, leaving, after_item, laid}
use Rattle.editor.proofs.Encoded.{read_encoded, word-at, words-in}
use Rattle.words.proofs.Judged.{Judged, judging}
use Rattle.editor.proofs.ForwardsDrafts.{Begins, begins_word, begins_inside, begins_trans, same_draft, not_stopped, laid_begins}

-- no output is given before outputs are due
pub data Early : Due → List ℕ → Type 0 where
  before : {due : Due} → Early due []
  giving : {outputs : List ℕ} → Early Outputs outputs

none : {due : Due} {outputs : List ℕ} → outputs ≡ [] → Early due outputs
none e = rw e Early.before

pub inputs-gates : (due : Due) → input_due due ≡ true → gate_due due ≡ true
inputs-gates Inputs e = refl
inputs-gates Gates e = refl
inputs-gates Outputs e = e
inputs-gates (Entries left modulus) e = e
inputs-gates (Branches bit) e = e

pub none_yet : {due : Due} {outputs : List ℕ} → Early due outputs → gate_due due ≡ true → outputs ≡ []
none_yet Early.before e = refl
none_yet Early.giving e = absurd (true≢false (sym e))

none-entries : {left modulus : ℕ} {outputs : List ℕ} → Early (Entries left modulus) outputs → outputs ≡ []
none-entries Early.before = refl

none-branches : {bit : ℕ} {outputs : List ℕ} → Early (Branches bit) outputs → outputs ≡ []
none-branches Early.before = refl

early_made :
    {moduli outputs : List ℕ} {given at : ℕ} {due then : Due} {x : Item} {wire : Wire}
    → Judged moduli given at due x (Makes wire then)
    → Early due outputs
    → Early then outputs
early_made {due = due} (Judged.input room byte party) y = none (none_yet y (inputs-gates due room.due))
early_made (Judged.add room two) y = none (none_yet y room.due)
early_made (Judged.multiply room two) y = none (none_yet y room.due)
early_made (Judged.scale room lower below) y = none (none_yet y room.due)
early_made (Judged.project room byte lower) y = none (none_yet y room.due)
early_made (Judged.branches two) y = none (none-branches y)

early_gone :
    {moduli outputs : List ℕ} {given at : ℕ} {due then : Due} {x : Item} → Judged moduli given at due x (Goes then) → Early due outputs → Early then outputs
early_gone (Judged.entry below) y = none (none-entries y)
early_gone (Judged.select room lower) y = none (none_yet y room.due)

table-byte : {file : List ℕ} {at left modulus : ℕ} {wires : List Wire} {given : List ℕ} → State file at (Entries left modulus) wires given → modulus < 256
table-byte (State.in_table s room table) = table.byte

below-byte : {n m : ℕ} → n < m → m ≤ 256 → n < 256
below-byte h l = omega arith

-- what a record may say: not the end, and an output that names a byte
abbrev pub sayable : Item → Bool
sayable Head = true
sayable (Input owner modulus) = true
sayable (Add a b) = true
sayable (Scale constant a) = true
sayable (Multiply a b) = true
sayable (Project modulus a) = true
sayable (Entry image) = true
sayable (Select bit) = true
sayable (Item.Branches a b) = true
sayable (Output named a) = ltb named 256
sayable End = false

-- .. and if it is not refused, it has fields that fit
abbrev pub is_refused : Step → Bool
is_refused (Refused reason) = true
is_refused (Makes wire due) = false
is_refused (Goes due) = false
is_refused (Gives wire) = false
is_refused Ends = false

module _ {file : List ℕ} {at : ℕ} {wires : List Wire} {outputs moduli : List ℕ} (e : moduli_of wires ≡ moduli) where
  narrow : {due : Due} {a : ℕ} → State file at due wires outputs → a < length moduli → a < 1024
  narrow st l = omega (arith, (within st).wires_limit, made wires, ap (length {A = ℕ}) e, l)

  byte : {due : Due} {a : ℕ} → State file at due wires outputs → gate_due due ≡ true → a < length moduli → get_or moduli a 0 < 256
  byte {a = a} st h l =
      let f : WireFits file wires a = (at-gates st h).fits a (omega (arith, made wires, ap (length {A = ℕ}) e, l)) in
      subst (λ (ms : List ℕ). get_or ms a 0 < 256) e (rw (modulus-of wires a) f.byte)

  fits :
      {given : ℕ} {due : Due} {x : Item} {s : Step}
      → State file at due wires outputs
      → sayable x ≡ true
      → Judged moduli given at due x s
      → is_refused s ≡ false
      → Fits x
  fits st on Judged.refused h = absurd (true≢false h)
  fits st on (Judged.input room short party) h = Fits.input (below-byte party (lit≤ tt)) short.byte
  fits st on (Judged.add room two) h = Fits.add (narrow st two.first) (narrow st two.second)
  fits st on (Judged.multiply room two) h = Fits.multiply (narrow st two.first) (narrow st two.second)
  fits st on (Judged.scale room lower below) h = Fits.scale (below-byte below (le_of_lt (byte st room.due lower))) (narrow st lower)
  fits st on (Judged.project room short lower) h = Fits.project short.byte (narrow st lower)
  fits st on (Judged.entry below) h = Fits.entry (below-byte below (le_of_lt (table-byte st)))
  fits st on (Judged.select room lower) h = Fits.select (narrow st lower)
  fits st on (Judged.branches two) h = Fits.branches (narrow st two.first) (narrow st two.second)
  fits st on (Judged.output {named = named} here lower few) h = Fits.output (ltb-true named 256 on) (narrow st lower)
  fits st on (Judged.end here) h = Fits.end

pub not-refused : (d : Draft) (x : Item) (s : Step) {e : Draft} → after_item d x s ≡ drafted e → is_refused s ≡ false
unfolding after_item
not-refused d x (Refused reason) h = not_stopped h
not-refused d x (Makes wire due) h = refl
not-refused d x (Goes due) h = refl
not-refused d x (Gives wire) h = refl
not-refused d x Ends h = refl

never_ends : {A : Type 0} {moduli : List ℕ} {given at : ℕ} {due : Due} {x : Item} → Judged moduli given at due x Ends → sayable x ≡ true → A
never_ends (Judged.end here) e = absurd (true≢false (sym e))

-- the wires and outputs behind an item
abbrev pub wires_after : Step → List Wire → List Wire
wires_after (Refused reason) wires = wires
wires_after (Makes wire due) wires = wires ++ (wire ∷ [])
wires_after (Goes due) wires = wires
wires_after (Gives wire) wires = wires
wires_after Ends wires = wires

abbrev pub outputs_after : Step → List ℕ → List ℕ
outputs_after (Refused reason) outputs = outputs
outputs_after (Makes wire due) outputs = outputs
outputs_after (Goes due) outputs = outputs
outputs_after (Gives wire) outputs = outputs ++ (wire ∷ [])
outputs_after Ends outputs = outputs

-- the reader has read a draft's words, which are the first of a file's
pub record InStep (all : List ℕ) (d : Draft) (wires : List Wire) (outputs : List ℕ) : Type 0 where
  pub state : State (file_of all) (length d.words) d.due wires outputs
  pub moduli : moduli_of wires ≡ d.moduli
  pub given : length outputs ≡ d.given
  pub rest : read_from (file_of all) (words_in (file_of all) - length d.words) (length d.words) d.due wires outputs ≡ read_file (file_of all)
  pub early : Early d.due outputs
  -- each output took a word
  pub enough : length outputs ≤ length d.words

pub leaves : {all left : List ℕ} {d : Draft} {wires : List Wire} {outputs : List ℕ} → InStep all d wires outputs → InStep all (leaving d left) wires outputs
leaves p = record { state = p.state; moduli = p.moduli; given = p.given; rest = p.rest; early = p.early; enough = p.enough }

read_as :
    {moduli moduli' : List ℕ} {given given' w : ℕ} (at : ℕ) (due : Due) {x : Item}
    → moduli ≡ moduli'
    → given ≡ given'
    → w ≡ word_of x
    → Fits x
    → read_word moduli given at due w ≡ judged moduli' given' at due x
read_as {moduli' = moduli'} {given' = given'} at due e f g fit = rw (e, f, g) (read_encoded moduli' given' at due fit)

module _ {all : List ℕ} {d : Draft} {wires : List Wire} {outputs : List ℕ} (p : InStep all d wires outputs) {x : Item} (f : Fits x)
    (b : Begins (d.words ++ (word_of x ∷ [])) all) where
  inside : length d.words < words_in (file_of all)
  inside = omega (arith, words-in all, begins_inside d.words (word_of x) b)

  read_here :
      read_word (moduli_of wires) (length outputs) (length d.words) d.due (word_at (file_of all) (length d.words))
      ≡ judged d.moduli d.given (length d.words) d.due x
  read_here = read_as _ _ p.moduli p.given (word-at all (length d.words) ∙ begins_word d.words (word_of x) b) f

  -- reading on is what the item does there
  pub turned :
      after (read_from (file_of all) (words_in (file_of all) - suc (length d.words)) (suc (length d.words))) (file_of all) (length d.words) wires outputs
      (judged d.moduli d.given (length d.words) d.due x)
      ≡ read_file (file_of all)
  turned =
      sym
      (unrolled (file_of all) (words_in (file_of all) - length d.words) (words_in (file_of all) - suc (length d.words)) (length d.words) d.due wires
      outputs (omega (arith, inside))
      ∙ ap (after (read_from (file_of all) (words_in (file_of all) - suc (length d.words)) (suc (length d.words))) (file_of all) (length d.words) wires outputs) read_here)
      ∙ p.rest

  next_here : Next (file_of all) (length d.words) wires outputs (judged d.moduli d.given (length d.words) d.due x)
  next_here = subst (Next (file_of all) (length d.words) wires outputs) read_here (next (file_of all) _ inside d.due wires outputs p.state)

-- an item that is laid down moves both by one word
module _ {all : List ℕ} {d : Draft} {wires : List Wire} {outputs : List ℕ} (p : InStep all d wires outputs) (x : Item) (on : sayable x ≡ true) where
  moved :
      {s : Step} {e : Draft}
      → Judged d.moduli d.given (length d.words) d.due x s
      → Next (file_of all) (length d.words) wires outputs s
      → after (read_from (file_of all) (words_in (file_of all) - suc (length d.words)) (suc (length d.words))) (file_of all) (length d.words) wires outputs s
      ≡ read_file (file_of all)
      → after_item d x s ≡ drafted e
      → InStep all e (wires_after s wires) (outputs_after s outputs)
  unfolding after after_item
  moved j Next.stops t h = not_stopped h
  moved j (Next.makes {x = wire} {due = due} st) t h =
      subst (λ (e : Draft). InStep all e (wires ++ (wire ∷ [])) outputs) (same_draft h)
      (record {
        state = rw (length_more d.words (word_of x)) st;
        moduli = map-append (λ (w : Wire). w.modulus) wires (wire ∷ []) ∙ ap (λ (ms : List ℕ). ms ++ (wire.modulus ∷ [])) p.moduli;
        given = p.given;
        rest = rw (length_more d.words (word_of x)) t;
        early = early_made j p.early;
        enough = rw (length_more d.words (word_of x)) (omega (arith, p.enough));
      })
  moved j (Next.goes {due = due} st) t h =
      subst (λ (e : Draft). InStep all e wires outputs) (same_draft h)
      (record {
        state = rw (length_more d.words (word_of x)) st;
        moduli = p.moduli;
        given = p.given;
        rest = rw (length_more d.words (word_of x)) t;
        early = early_gone j p.early;
        enough = rw (length_more d.words (word_of x)) (omega (arith, p.enough));
      })
  moved j (Next.gives {b = b} st) t h =
      subst (λ (e : Draft). InStep all e wires (outputs ++ (b ∷ []))) (same_draft h)
      (record {
        state = rw (length_more d.words (word_of x)) st;
        moduli = p.moduli;
        given = length_more outputs b ∙ ap suc p.given;
        rest = rw (length_more d.words (word_of x)) t;
        early = Early.giving;
        enough = rw (length_more d.words (word_of x), length_more outputs b) (omega (arith, p.enough));
      })
  moved j (Next.ends s some) t h = never_ends j on

  pub laid-fits : {e : Draft} → laid d x ≡ drafted e → Fits x
  laid-fits h =
      fits p.moduli p.state on (judging d.moduli d.given (length d.words) d.due x) (not-refused d x _ h)

  pub step :
      {e : Draft}
      → laid d x ≡ drafted e
      → Begins e.words all
      → InStep all e (wires_after (judged d.moduli d.given (length d.words) d.due x) wires)
      (outputs_after (judged d.moduli d.given (length d.words) d.due x) outputs)
  step {e} h c =
      let b : Begins (d.words ++ (word_of x ∷ [])) all = begins_trans (laid_begins d x h) c in
      moved (judging d.moduli d.given (length d.words) d.due x) (next_here p (laid-fits h) b) (turned p (laid-fits h) b) h

-- behind the head
pub begun : (all tables : List ℕ) → Begins (word_of Head ∷ []) all → InStep all (blank tables) [] []
unfolding read_file headed
begun all tables b =
    record {
      state = nothing (file_of all);
      moduli = refl;
      given = refl;
      rest = ap (λ (h : Bool). headed h (file_of all)) (sym head);
      early = Early.before;
      enough = omega arith;
    }
  where
    head : has_head (file_of all) ≡ true
    head =
        ap₂ ◌&&◌ (lt-ltb 0 (words_in (file_of all)) (omega (arith, words-in all, begins_inside [] (word_of Head) b)))
        (eq-eqb (word_at (file_of all) 0) 0x1000_0000 (word-at all 0 ∙ begins_word [] (word_of Head) b))
