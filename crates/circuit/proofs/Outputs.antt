-- The theorem `named-there`: the outputs' words stand directly before the end word, which is the file's last, so whom the definition looks up there
-- (`named_before`) is whom each output's own word names. By induction on the words that are left, as in Accepted.antt: where outputs are due the last words
-- are those of the outputs so far, and before that there is no output.
-- Assumes nothing.
use mathlib.Core.Path.{◌≡◌, refl, ◌∙◌, sym, ap}
use mathlib.Core.Bool.{Bool, true, false}
use mathlib.Core.List.{List, [], ◌∷◌, ◌++◌}
use Prim.Native.Nat.{ℕ, zero, suc, ◌+◌, ◌-◌, ◌*◌, ◌≤◌, ◌<◌}
use native.Mathlib.Nat.{mod-lt, not-suc-le-zero}
use native.Mathlib.Omega.{arith}
use lib.Dec.{ltb, leb}
use lib.ListN.{length, get_or, get_or-append}
use lib.Seq.{get_or-append_seam}
use borrow.Author.Tests.{ltb-true, leb-true}
use Rattle.residue.proofs.Table.{and_left}
use Rattle.lists.specs.Blocks.{blocks}
use Rattle.lists.proofs.Blocks.{length-tab, get_or-tab}
use Rattle.checks.specs.declared.Refusal.{Refusal}
use Rattle.checks.specs.declared.Refusal.TheVariants.{NoHead, WrongEnd}
use Rattle.words.specs.Bits.{kind, word_at, named}
use Rattle.words.specs.Items.{input_due, gate_due}
use Rattle.words.specs.Reading.{Said, Nothing, Says, said, said_by, does, read_word}
use Rattle.words.proofs.Judged.{Judged, judging}
use Rattle.words.specs.declared.gate.Wire.{Wire}
use Rattle.words.specs.declared.gate.Due.{Due}
use Rattle.words.specs.declared.gate.Due.TheVariants.{Inputs, Outputs, Entries, Branches}
use Rattle.words.specs.declared.gate.Step.{Step}
use Rattle.words.specs.declared.gate.Step.TheVariants.{Makes, Goes, Gives, Ends}
use Rattle.words.specs.declared.item.Item.{Item}
use Rattle.circuit.specs.Wires.{moduli_of}
use Rattle.circuit.specs.File.{Read, refused, words_in, named_before, ended, after, read_from, headed, read_file}
use Rattle.circuit.proofs.More.{length_more, each}
use Rattle.circuit.proofs.State.{not-true}
use Rattle.checks.specs.Answer.{Answer, accepts, refuses}

-- of what a file comes to: the words before its last one are the outputs' own, each with its wire and with whom it names
pub record NamedThere (file : List ℕ) (read : Read) : Type 0 where
  pub are : read.named ≡ named_before file (words_in file - 1) (length read.outputs)
  pub many : length read.named ≡ length read.outputs
  pub words :
      (i : ℕ)
      → i < length read.outputs
      → said_by (word_at file (words_in file - 1 - length read.outputs + i)) ≡ Says (Item.Output (get_or read.named i 0) (get_or read.outputs i 0))
  pub bytes : (i : ℕ) → i < length read.outputs → get_or read.named i 0 < 256

-- whom an output word names is in its bits: of all that a word may say, the parties that an output names, and where it is none, others
abbrev parties_of : ℕ → Item → ℕ
parties_of others Item.Head = others
parties_of others (Item.Input owner modulus) = others
parties_of others (Item.Add a b) = others
parties_of others (Item.Scale constant a) = others
parties_of others (Item.Multiply a b) = others
parties_of others (Item.Project modulus a) = others
parties_of others (Item.Entry image) = others
parties_of others (Item.Select bit) = others
parties_of others (Item.Branches a b) = others
parties_of others (Item.Output parties a) = parties
parties_of others Item.End = others

abbrev parties_said : ℕ → Said → ℕ
parties_said others Nothing = others
parties_said others (Says x) = parties_of others x

whether : (w : ℕ) (b : Bool) (x : Item) → parties_of (named w) x ≡ named w → parties_said (named w) (said b x) ≡ named w
unfolding said
whether w true x e = e
whether w false x e = refl

by-kind : (w k : ℕ) → kind w ≡ k → parties_said (named w) (said_by w) ≡ named w
by-kind w zero e = rw e refl
by-kind w (suc zero) e = rw e (whether w _ _ refl)
by-kind w (suc (suc zero)) e = rw e (whether w _ _ refl)
by-kind w (suc (suc (suc zero))) e = rw e (whether w _ _ refl)
by-kind w (suc (suc (suc (suc zero)))) e = rw e (whether w _ _ refl)
by-kind w (suc (suc (suc (suc (suc zero))))) e = rw e (whether w _ _ refl)
by-kind w (suc (suc (suc (suc (suc (suc zero)))))) e = rw e (whether w _ _ refl)
by-kind w (suc (suc (suc (suc (suc (suc (suc zero))))))) e = rw e (whether w _ _ refl)
by-kind w (suc (suc (suc (suc (suc (suc (suc (suc zero)))))))) e = rw e (whether w _ _ refl)
by-kind w (suc (suc (suc (suc (suc (suc (suc (suc (suc zero))))))))) e = rw e (whether w _ _ refl)
by-kind w (suc (suc (suc (suc (suc (suc (suc (suc (suc (suc zero)))))))))) e = rw e (whether w _ _ refl)
by-kind w (suc (suc (suc (suc (suc (suc (suc (suc (suc (suc (suc zero))))))))))) e = rw e (whether w _ _ refl)
by-kind w (suc (suc (suc (suc (suc (suc (suc (suc (suc (suc (suc (suc k)))))))))))) e = rw e refl

pub own-names : (w : ℕ) {parties wire : ℕ} → said_by w ≡ Says (Item.Output parties wire) → said_by w ≡ Says (Item.Output (named w) wire)
own-names w {parties} {wire} e =
    e ∙ ap (λ (n : ℕ). Says (Item.Output n wire)) (sym (ap (parties_said (named w)) e) ∙ by-kind w (kind w) refl)

-- a word is that of an output of a wire
abbrev Gave : List ℕ → ℕ → ℕ → Type 0
Gave file place wire = said_by (word_at file place) ≡ Says (Item.Output (named (word_at file place)) wire)

-- the last words before an index are those of the outputs so far
record Behind (file : List ℕ) (at : ℕ) (given : List ℕ) : Type 0 where
  enough : length given ≤ at
  gave : (i : ℕ) → i < length given → Gave file (at - length given + i) (get_or given i 0)

-- .. where outputs are due; where anything else is, there is none
data Told (file : List ℕ) (at : ℕ) : Due → List ℕ → Type 0 where
  before : {due : Due} → Told file at due []
  in_outputs : {given : List ℕ} → Behind file at given → Told file at Outputs given

behind : {file given : List ℕ} {at : ℕ} {due : Due} → Told file at due given → Behind file at given
behind before = record { enough = omega arith; gave = λ i h. absurd (not-suc-le-zero h) }
behind (in_outputs b) = b

module _ (file : List ℕ) (at : ℕ) (given : List ℕ) (b : Behind file at given) where
  place : (i : ℕ) → suc at - suc (length given) + i ≡ at - length given + i
  place i = omega arith

  here : suc at - suc (length given) + length given ≡ at
  here = omega (arith, b.enough)

  -- one output more
  behind_more : (wire : ℕ) → Gave file at wire → Behind file (suc at) (given ++ (wire ∷ []))
  behind_more wire g =
      record {
        enough = rw length_more (omega (arith, b.enough));
        gave =
            each given wire (λ i. Gave file (suc at - length (given ++ (wire ∷ [])) + i) (get_or (given ++ (wire ∷ [])) i 0))
            (λ i h. rw (length_more given wire, get_or-append given (wire ∷ []) 0 i h, place i) (b.gave i h))
            (rw (length_more given wire, get_or-append_seam given wire [] 0, here) g);
      }

-- what a word leaves behind, by what it does
data Next (file : List ℕ) (at : ℕ) (given : List ℕ) : Step → Type 0 where
  stops : {reason : Refusal} → Next file at given (Step.Refused reason)
  makes : {x : Wire} {due : Due} → Told file (suc at) due given → Next file at given (Makes x due)
  goes : {due : Due} → Told file (suc at) due given → Next file at given (Goes due)
  gives : {wire : ℕ} → Told file (suc at) Outputs (given ++ (wire ∷ [])) → Next file at given (Gives wire)
  ends : Next file at given Ends

-- an input, a gate, an entry or branches stand before all outputs
none_at_inputs : {file given : List ℕ} {at : ℕ} {due then : Due} → Told file at due given → input_due due ≡ true → Told file (suc at) then given
none_at_inputs before e = before
none_at_inputs (in_outputs b) e = not-true e

none_at_gates : {file given : List ℕ} {at : ℕ} {due then : Due} → Told file at due given → gate_due due ≡ true → Told file (suc at) then given
none_at_gates before e = before
none_at_gates (in_outputs b) e = not-true e

none_at_entries : {file given : List ℕ} {at left modulus : ℕ} {then : Due} → Told file at (Entries left modulus) given → Told file (suc at) then given
none_at_entries before = before

none_at_branches : {file given : List ℕ} {at bit : ℕ} {then : Due} → Told file at (Branches bit) given → Told file (suc at) then given
none_at_branches before = before

module _ (file : List ℕ) (at : ℕ) (given moduli : List ℕ) where
  item :
      {due : Due} {x : Item} {s : Step}
      → said_by (word_at file at) ≡ Says x
      → Told file at due given
      → Judged moduli (length given) at due x s
      → Next file at given s
  item e t Judged.refused = stops
  item e t (Judged.input room modulus owner) = makes (none_at_inputs t room.due)
  item e t (Judged.add room two) = makes (none_at_gates t room.due)
  item e t (Judged.multiply room two) = makes (none_at_gates t room.due)
  item e t (Judged.scale room made below) = makes (none_at_gates t room.due)
  item e t (Judged.project room modulus made) = makes (none_at_gates t room.due)
  item e t (Judged.entry fits) = goes (none_at_entries t)
  item e t (Judged.select room made) = goes (none_at_gates t room.due)
  item e t (Judged.branches two) = makes (none_at_branches t)
  item e t (Judged.output due made few) = gives (in_outputs (behind_more file at given (behind t) _ (own-names (word_at file at) e)))
  item e t (Judged.end due) = ends

  any : (due : Due) (said : Said) → said_by (word_at file at) ≡ said → Told file at due given → Next file at given (does moduli (length given) at due said)
  any due Nothing e t = stops
  any due (Says x) e t = item e t (judging moduli (length given) at due x)

  next : (due : Due) → Told file at due given → Next file at given (read_word moduli (length given) at due (word_at file at))
  unfolding read_word
  next due t = any due (said_by (word_at file at)) refl t

-- what comes of a file whose last word is at an index
module _ (file : List ℕ) (at : ℕ) (last : words_in file - 1 ≡ at) (answer : Answer) (wires : List Wire) (given : List ℕ) (b : Behind file at given) where
  abbrev looked : ℕ → ℕ
  looked i = named (word_at file (at - length given + i))

  there : NamedThere file (record { answer = answer; wires = wires; outputs = given; named = named_before file at (length given) })
  there =
      record {
        are = rw last refl;
        many = length-tab (length given) looked;
        words = λ i h. rw (last, get_or-tab (length given) looked i 0 h) (b.gave i h);
        bytes = λ i h. rw (get_or-tab (length given) looked i 0 h) (mod-lt _ (omega arith));
      }

none-there : (file : List ℕ) (reason : Refusal) (place : ℕ) → NamedThere file (refused reason place)
unfolding blocks
none-there file reason place = there file (words_in file - 1) refl (refuses reason place) [] [] (behind {due = Inputs} before)

finish :
    (file : List ℕ) (at : ℕ) (ok : Bool) (wires : List Wire) (given : List ℕ)
    → (ok ≡ true → words_in file - 1 ≡ at)
    → Behind file at given
    → NamedThere file (ended ok at wires given (named_before file at (length given)))
unfolding ended
finish file at true wires given last b = there file at (last refl) accepts wires given b
finish file at false wires given last b = none-there file WrongEnd (suc at)

module _ (file : List ℕ) (at : ℕ) (inside : at < words_in file) (wires : List Wire) (given : List ℕ) (then : Due → List Wire → List ℕ → Read)
    (rest : (due : Due) (wires : List Wire) (given : List ℕ) → Told file (suc at) due given → NamedThere file (then due wires given)) where
  -- the end word is the last one if no byte follows it
  is_last : leb (length file) (4 * suc at) ≡ true → words_in file - 1 ≡ at
  is_last e = omega (arith, leb-true (length file) (4 * suc at) e, inside)

  step : {s : Step} → Behind file at given → Next file at given s → NamedThere file (after then file at wires given s)
  unfolding after
  step b stops = none-there file _ at
  step b (makes t) = rest _ _ _ t
  step b (goes t) = rest _ _ _ t
  step b (gives t) = rest _ _ _ t
  step b ends = finish file at _ wires given is_last b

from :
    (file : List ℕ) (left at : ℕ) (due : Due) (wires : List Wire) (given : List ℕ)
    → at + left ≤ words_in file
    → Told file at due given
    → NamedThere file (read_from file left at due wires given)
unfolding read_from
from file zero at due wires given l t = none-there file WrongEnd at
from file (suc left) at due wires given l t =
    step file at (omega arith) wires given (read_from file left (suc at))
    (λ due' wires' given' t'. from file left (suc at) due' wires' given' (omega arith) t')
    (behind t)
    (next file at given (moduli_of wires) due t)

begun : (b : Bool) (file : List ℕ) → (b ≡ true → 0 < words_in file) → NamedThere file (headed b file)
unfolding headed
begun true file h = from file (words_in file - 1) 1 Inputs [] [] (omega (arith, h refl)) before
begun false file h = none-there file NoHead 0

-- of every file: a refused one has no outputs
pub named-there : (file : List ℕ) → NamedThere file (read_file file)
unfolding read_file
named-there file = begun _ file (λ e. ltb-true 0 (words_in file) (and_left (ltb 0 (words_in file)) _ e))
