-- The theorem on acceptance: a part that the call writes for the next wire of an accepted circuit that has the bundles, laid behind the circuit's gates, is
-- accepted, with any outputs behind it that fit; and what stood among the gates stands there still.
-- Assumes nothing.
use mathlib.Core.Path.{◌≡◌, refl, sym, ap, ap₂, subst, ◌∙◌}
use mathlib.Core.Bool.{Bool, true}
use mathlib.Core.List.{List, [], ◌∷◌, ◌++◌, zip_with, append-nil, append_assoc}
use Prim.Native.Nat.{ℕ, zero, suc, ◌+◌, ◌-◌, ◌*◌, ◌%◌, ◌≤◌, ◌<◌}
use native.Mathlib.Omega.{arith}
use lib.ListN.{length, get_or, take, drop, length-append, take-append-drop}
use lib.Seq.{length-take-le, get_or-append-add, take-append-add}
use borrow.Author.Tests.{lt-ltb, le-leb}
use Rattle.lists.proofs.Blocks.{length-tab, get_or-tab, is-tab}
use Rattle.words.specs.Bits.{word_at, named as named_in}
use Rattle.words.specs.Items.{gate_due, output_due}
use Rattle.words.specs.Encode.{word_of, file_of}
use Rattle.words.specs.Fits.{Fits}
use Rattle.words.specs.declared.gate.Wire.{Wire}
use Rattle.words.specs.declared.gate.Due.{Due}
use Rattle.words.specs.declared.gate.Due.TheVariants.{Inputs, Gates, Outputs, Entries, Branches}
use Rattle.words.specs.declared.item.Item.TheVariants.{Output}
use Rattle.words.proofs.Files.{length-file}
use Rattle.circuit.specs.Wires.{no_wire, moduli_of}
use Rattle.circuit.specs.File.{Read, accepted, named_before, ended, after, read_file}
use Rattle.circuit.proofs.Accepted.{accepted as circuit-of}
use Rattle.circuit.proofs.Outputs.{named-there}
use Rattle.circuit.proofs.More.{made, length_more}
use Rattle.bundles.specs.declared.operation.Operation.{Operation}
use Rattle.bundles.specs.Primes.{prime}
use Rattle.bundles.specs.Part.{PartGate, Sum, scaled, gate_at, part_of, part_words}
use Rattle.bundles.proofs.Verdicts.{PartPassed, part_passed}
use Rattle.integers.specs.Reach.{Reach, Has}
use Rattle.integers.specs.Bundle.{Bundle, Given}
use Rattle.integers.specs.Promise.{words_to_gates, gates, closing, appended, OutputsFit, Among, AcceptedBehind, AppendedIsAccepted}
use Rattle.integers.proofs.Places.{word_before, Stands, stands, stands_right}
use Rattle.integers.proofs.Reaching.{read_on, itself, SameTo, fewer, moved, turned}
use Rattle.integers.proofs.Suits.{modulus_of, AllSuit, Arrived, wire-modulus, advance, part_wires, length_part_wires, said, first_word, passed}
use Rattle.integers.proofs.Computes.{holds, part_suits}
use Rattle.integers.proofs.GatesEnd.{Ended, gates_end}
use Rattle.checks.specs.Answer.{accepts}

-- ---- outputs and the end word behind the last gate

gates-outputs : (due : Due) → gate_due due ≡ true → output_due due ≡ true
gates-outputs Inputs e = refl
gates-outputs Gates e = refl
gates-outputs Outputs e = refl
gates-outputs (Entries left modulus) e = e
gates-outputs (Branches bit) e = e

length-closing : (outputs named : List ℕ) → length named ≡ length outputs → length (closing outputs named) ≡ suc (length outputs)
unfolding zip_with
length-closing [] named e = refl
length-closing (o ∷ outputs) [] e = absurd (omega arith)
length-closing (o ∷ outputs) (n ∷ named) e = ap suc (length-closing outputs named (omega arith))

closing_at : (outputs named : List ℕ) → length named ≡ length outputs → (i : ℕ) → i < length outputs
    → get_or (closing outputs named) i 0 ≡ word_of (Output (get_or named i 0) (get_or outputs i 0))
unfolding zip_with
closing_at [] named e i l = absurd (omega arith)
closing_at (o ∷ outputs) [] e i l = absurd (omega arith)
closing_at (o ∷ outputs) (n ∷ named) e zero l = refl
closing_at (o ∷ outputs) (n ∷ named) e (suc i) l = closing_at outputs named (omega arith) i (omega arith)

-- the parties in an output's word
parties-in : (parties wire : ℕ) → parties < 256 → wire < 1024 → parties ≡ named_in (word_of (Output parties wire))
parties-in parties wire f g = omega arith

module _ (file : List ℕ) (wires : List Wire) (most : length wires ≤ 1024) where
  -- so many outputs are given, and these are left, with the parties that they name
  record Left (given outputs named : List ℕ) : Type 0 where
    some : 0 < length given + length outputs
    few : length given + length outputs ≤ 256
    lower : (i : ℕ) → i < length outputs → get_or outputs i 0 < length wires
    each : length named ≡ length outputs
    bytes : (i : ℕ) → i < length outputs → get_or named i 0 < 256

  left_on : (given : List ℕ) (o : ℕ) (outputs : List ℕ) (n : ℕ) (named : List ℕ) → Left given (o ∷ outputs) (n ∷ named) → Left (given ++ (o ∷ [])) outputs named
  left_on given o outputs n named l =
      record {
        some = omega (arith, length_more given o);
        few = omega (arith, l.few, length_more given o);
        lower = λ i h. l.lower (suc i) (omega arith);
        each = omega (arith, l.each);
        bytes = λ i h. l.bytes (suc i) (omega arith);
      }

  -- the end word is at an index; whom the outputs name is what the words before it say
  abbrev read_to : ℕ → List ℕ → Read
  read_to to outputs = accepted wires outputs (named_before file to (length outputs))

  closes : (outputs named given : List ℕ) (at to : ℕ) (due : Due)
      → Reach file at due wires given
      → output_due due ≡ true
      → Stands file at (closing outputs named)
      → length file ≡ 4 * (at + length (closing outputs named))
      → to ≡ at + length outputs
      → Left given outputs named
      → read_file file ≡ read_to to (given ++ outputs)
  unfolding after ended zip_with
  closes [] named given at to due r here s size last l =
      let e = said r (first_word s) Fits.end (passed _ _ here ∙ passed _ _ (lt-ltb 0 (length given) (omega (arith, l.some)))) in
      sym (read_on r (omega (arith, s.inside)))
      ∙ turned file at due wires given (omega (arith, s.inside)) e
      ∙ ap (λ (b : Bool). ended b at wires given (named_before file at (length given))) (le-leb (length file) (4 * suc at) (omega (arith, size)))
      ∙ ap₂ read_to (omega (arith, last)) (sym (append-nil given))
  closes (o ∷ outputs) [] given at to due r here s size last l = absurd (omega (arith, l.each))
  closes (o ∷ outputs) (n ∷ named) given at to due r here s size last l =
      let lower : o < length wires = l.lower 0 (omega arith) in
      let e = said r (first_word s) (Fits.output (l.bytes 0 (omega arith)) (omega (arith, lower)))
      (passed _ _ here ∙ passed _ _ (lt-ltb o (length (moduli_of wires)) (omega (arith, lower, made wires))) ∙ passed _ _ (lt-ltb (length given) 256 (omega (arith, l.few)))) in
      let later : Stands file (suc at) (closing outputs named) =
      subst (λ (n : ℕ). Stands file n (closing outputs named)) (omega arith) (stands_right (word_of (Output n o) ∷ []) (closing outputs named) s) in
      closes outputs named (given ++ (o ∷ [])) (suc at) to Outputs (Reach.gives r e) refl later (omega (arith, size)) (omega (arith, last)) (left_on given o outputs n named l)
      ∙ ap (read_to to) (append_assoc given (o ∷ []) outputs)

  -- so they name the parties whose words were laid down
  names_are : (outputs named : List ℕ) (at to : ℕ)
      → Stands file at (closing outputs named)
      → to ≡ at + length outputs
      → Left [] outputs named
      → named_before file to (length outputs) ≡ named
  names_are outputs named at to s last l =
      sym
      (is-tab (length outputs) (λ i. named_in (word_at file (to - length outputs + i))) named 0 l.each
      (λ i h.
      parties-in (get_or named i 0) (get_or outputs i 0) (l.bytes i h) (omega (arith, l.lower i h))
      ∙ ap named_in
      (sym (closing_at outputs named l.each i h)
      ∙ sym (s.word i (omega (arith, length-closing outputs named l.each)))
      ∙ ap (word_at file) (omega (arith, last)))))

-- ---- the moduli of a part's wires

gate-modulus : (operation : Operation) (a i : ℕ) → modulus_of (gate_at operation a i) ≡ prime i
unfolding scaled
gate-modulus (Operation.Add b) a i = refl
gate-modulus (Operation.Multiply b) a i = refl
gate-modulus (Operation.Scale constant) a i = by (constant % prime i)
  where
    by : (k : ℕ) → modulus_of (scaled k (prime i) (a + i)) ≡ prime i
    by zero = refl
    by (suc k) = refl

wires-moduli : (gates : List PartGate) (at i : ℕ) → i < length gates → (get_or (part_wires at gates) i no_wire).modulus ≡ modulus_of (get_or gates i (Sum 0 0 0))
unfolding part_wires
wires-moduli [] at i l = absurd (omega arith)
wires-moduli (gate ∷ gates) at zero l = wire-modulus at gate
wires-moduli (gate ∷ gates) at (suc i) l = wires-moduli gates _ i (omega arith)

-- ---- what stands among the gates

-- .. of a file that begins with the same gates
module _ (file new rest : List ℕ) (is : new ≡ gates file ++ rest) {at : ℕ} (same : SameTo file new at) (place : words_to_gates file ≡ at) {next : ℕ} {bytes : List ℕ} (m : Among file next bytes) where
  abbrev had : Has file next bytes
  had = m.has

  -- what is left of the gates behind the bytes
  abbrev left : List ℕ
  left = take (4 * words_to_gates file - (length had.front + length bytes)) had.rest

  gates_are : gates file ≡ had.front ++ (bytes ++ left)
  gates_are =
      let n = 4 * words_to_gates file - (length had.front + length bytes) in
      let count : 4 * words_to_gates file ≡ length had.front + (length bytes + n) = omega (arith, m.inside) in
      ap₂ take count had.is
      ∙ take-append-add had.front (bytes ++ had.rest) (length bytes + n)
      ∙ ap (λ (l : List ℕ). had.front ++ l) (take-append-add bytes had.rest n)

  still : words_to_gates file ≤ words_to_gates new → Among new next bytes
  still more =
      record {
        has = record {
          front = had.front;
          rest = left ++ rest;
          is = is ∙ ap (λ (l : List ℕ). l ++ rest) gates_are ∙ append_assoc had.front (bytes ++ left) rest ∙ ap (λ (l : List ℕ). had.front ++ l) (append_assoc bytes left rest);
          at = had.at;
          whole = had.whole;
          due = had.due;
          wires = had.wires;
          outputs = had.outputs;
          reached = moved had.reached (fewer same (omega (arith, m.inside, had.whole, place)));
          made = had.made;
        };
        inside = omega (arith, m.inside, more);
      }

-- ---- the file with the part

module _ (file : List ℕ) (operation : Operation) (r a : ℕ) (outputs named : List ℕ) (good : (read_file file).answer ≡ accepts)
    {bytes : ℕ} (c : PartPassed operation r (length (read_file file).wires) a bytes) where
  abbrev before : List Wire
  before = (read_file file).wires

  abbrev part : List ℕ
  part = part_words operation r a

  abbrev new : List ℕ
  new = appended file part outputs named

  end : Ended file (read_file file)
  end = gates_end file good

  place : words_to_gates file ≡ end.at
  place = omega (arith, end.count)

  whole : length (gates file) ≡ 4 * end.at
  whole = length-take-le (4 * words_to_gates file) file (omega (arith, place, end.count)) ∙ ap (λ (n : ℕ). 4 * n) place

  same : SameTo file new end.at
  same =
      record {
        word = λ i l.
            word_before (gates file) (file_of part ++ file_of (closing outputs named)) end.at whole i l
            ∙ sym (word_before (gates file) (drop (4 * words_to_gates file) file) end.at whole i l)
            ∙ ap (λ (f : List ℕ). word_at f i) (take-append-drop (4 * words_to_gates file) file);
        some = omega (arith, length-append (gates file) (file_of part ++ file_of (closing outputs named)), whole);
      }

  reach : Reach new end.at end.due before []
  reach = moved end.reach same

  there : Stands new end.at part
  there = stands (gates file) part (file_of (closing outputs named)) end.at whole

  -- the end of the part
  behind_part : Stands new (end.at + length part) (closing outputs named)
  behind_part =
      subst (λ (f : List ℕ). Stands f (end.at + length part) (closing outputs named))
      (append_assoc (gates file) (file_of part) (file_of (closing outputs named) ++ []) ∙ ap (λ (l : List ℕ). gates file ++ (file_of part ++ l)) (append-nil (file_of (closing outputs named))))
      (stands (gates file ++ file_of part) (closing outputs named) [] (end.at + length part) (omega (arith, length-append (gates file) (file_of part), whole, length-file part)))

  size : length new ≡ 4 * (end.at + length part + length (closing outputs named))
  size =
      omega (arith, length-append (gates file) (file_of part ++ file_of (closing outputs named)), length-append (file_of part) (file_of (closing outputs named)), whole, length-file part, length-file (closing outputs named))

  module _ (given : Given before r a operation) (fit : OutputsFit outputs named (length before + r)) where
    gates_of : AllSuit (moduli_of before) (part_of operation r a)
    gates_of = part_suits c.range.ten (holds before before (itself before) refl c.below given)

    count : length (part_of operation r a) ≡ r
    count = length-tab r (gate_at operation a)

    abbrev more : List Wire
    more = part_wires end.at (part_of operation r a)

    length_more_wires : length (before ++ more) ≡ length before + r
    length_more_wires = length-append before more ∙ ap (λ (n : ℕ). length before + n) (length_part_wires (part_of operation r a) end.at ∙ count)

    arrived : Arrived new (end.at + length part) (before ++ more) []
    arrived =
        advance (record { due = end.due; here = end.here; reach = reach }) refl gates_of (omega (arith, count, c.wires)) there

    -- the new wires have the primes as moduli
    made_bundle : Bundle (before ++ more) r (length before)
    made_bundle =
        record {
          made = omega (arith, length_more_wires);
          moduli = λ i l.
              ap (λ (wire : Wire). wire.modulus) (get_or-append-add before more i no_wire)
              ∙ wires-moduli (part_of operation r a) end.at i (omega (arith, count))
              ∙ ap modulus_of (get_or-tab r (gate_at operation a) i (Sum 0 0 0) l)
              ∙ gate-modulus operation a i;
        }

    few_wires : length (before ++ more) ≤ 1024
    few_wires = omega (arith, length_more_wires, c.wires)

    left_all : Left new (before ++ more) few_wires [] outputs named
    left_all =
        record {
          some = omega (arith, fit.some);
          few = omega (arith, fit.most);
          lower = λ i l. omega (arith, fit.made i l, length_more_wires);
          each = fit.each;
          bytes = fit.bytes;
        }

    reads_so : read_file new ≡ accepted (before ++ more) outputs named
    reads_so =
        let at : ℕ = end.at + length part in
        closes new (before ++ more) few_wires outputs named [] at (at + length outputs) arrived.due arrived.reach
        (gates-outputs arrived.due arrived.here) behind_part size refl left_all
        ∙ ap (accepted (before ++ more) outputs) (names_are new (before ++ more) few_wires outputs named at (at + length outputs) behind_part refl left_all)

    -- the gates now end behind the part
    gates_now : words_to_gates new ≡ end.at + length part
    gates_now = omega (arith, size, length-closing outputs named fit.each, ap (λ (read : Read). length read.outputs) reads_so)

    has_part : Among new (length before) (file_of part)
    has_part =
        record {
          has = record {
            front = gates file;
            rest = file_of (closing outputs named);
            is = refl;
            at = end.at;
            whole = whole;
            due = end.due;
            wires = before;
            outputs = [];
            reached = reach;
            made = refl;
          };
          inside = omega (arith, whole, length-file part, gates_now);
        }

    stay : (next : ℕ) (bytes : List ℕ) → Among file next bytes → Among new next bytes
    stay next bytes m = still file new (file_of part ++ file_of (closing outputs named)) refl same place m (omega (arith, place, gates_now))

    behind_it : AcceptedBehind file part outputs named r
    behind_it =
        record {
          more = more;
          made = length_part_wires (part_of operation r a) end.at ∙ count;
          reads = reads_so;
          bundle = made_bundle;
          has = has_part;
          stays = stay;
        }

pub behind : AppendedIsAccepted
behind file operation r a size outputs named good checks given fit =
    behind_it file operation r a outputs named good (part_passed operation r (length (read_file file).wires) a size refl checks) given fit

-- the outputs that the circuit had fit, with the parties that they name: they may stand behind the part too
pub own-outputs : (file : List ℕ) (r : ℕ) → (read_file file).answer ≡ accepts
    → OutputsFit (read_file file).outputs (read_file file).named (length (read_file file).wires + r)
own-outputs file r good =
    let circuit = circuit-of file good in
    let there = named-there file in
    record {
      some = circuit.outputs_some;
      most = circuit.outputs_limit;
      made = λ i l. omega (arith, circuit.outputs_made i l);
      each = there.many;
      bytes = there.bytes;
    }
