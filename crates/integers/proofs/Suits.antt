-- Gates of a part that suit the wires so far: read from a file that has their words, each makes its wire, whatever gates they are. The gates of bundles, and
-- any others that a part has, go by this.
-- Assumes nothing.
use mathlib.Core.Path.{◌≡◌, refl, sym, ap, ap₂, subst, ◌∙◌}
use mathlib.Core.Bool.{Bool, true, false, ◌&&◌}
use mathlib.Core.List.{List, [], ◌∷◌, ◌++◌, map, map-append, append-nil, append_assoc}
use Prim.Native.Nat.{ℕ, zero, suc, ◌+◌, ◌≤◌, ◌<◌}
use native.Mathlib.Nat.{add-zero}
use native.Mathlib.Omega.{arith}
use lib.ListN.{length, get_or, length-append, get_or-append}
use borrow.Author.Tests.{lt-ltb, eq-eqb}
use Rattle.lists.specs.Blocks.{tab}
use Rattle.lists.proofs.Blocks.{length-tab, get_or-tab, map-tab}
use Rattle.checks.specs.declared.Refusal.{Refusal}
use Rattle.checks.specs.declared.Refusal.TheVariants.{NotDue}
use Rattle.words.specs.Bits.{word_at}
use Rattle.words.specs.Items.{check, gate_due, after_entry, wire_of, pair_of, is_modulus, pair_item, scale_item, project_item, judged}
use Rattle.words.specs.Reading.{read_word}
use Rattle.words.specs.Encode.{word_of}
use Rattle.words.specs.Fits.{Fits}
use Rattle.words.proofs.Steps.{passed as passes}
use Rattle.words.specs.declared.gate.Gate.{Gate}
use Rattle.words.specs.declared.gate.Gate.TheVariants.{Add, Scale, Multiply, Project}
use Rattle.words.specs.declared.gate.Wire.{Wire}
use Rattle.words.specs.declared.gate.Due.{Due}
use Rattle.words.specs.declared.gate.Due.TheVariants.{Gates, Entries}
use Rattle.words.specs.declared.gate.Step.{Step}
use Rattle.words.specs.declared.gate.Step.TheVariants.{Makes, Goes}
use Rattle.words.specs.declared.item.Item as item
use Rattle.words.specs.declared.item.Item.{Item}
use Rattle.circuit.specs.Wires.{moduli_of}
use Rattle.circuit.specs.File.{read_file}
use Rattle.circuit.proofs.More.{made, length_more}
use Rattle.editor.proofs.Encoded.{read_encoded}
use Rattle.bundles.specs.Part.{PartGate, Sum, Product, Multiple, Image, items_of, words_of}
use Rattle.integers.specs.Reach.{Reach}
use Rattle.integers.proofs.Places.{Stands, stands_left, stands_right}
use Rattle.integers.proofs.Reaching.{not-refused}
use Rattle.checks.specs.Answer.{accepts}

-- the modulus of the wire that a gate makes
abbrev pub modulus_of : PartGate → ℕ
modulus_of (Sum p a b) = p
modulus_of (Product p a b) = p
modulus_of (Multiple p constant a) = p
modulus_of (Image p q a table) = q

-- a table of images below q
pub record Below (p q : ℕ) (table : ℕ → ℕ) : Type 0 where
  pub below : (v : ℕ) → v < p → table v < q

-- a wire of modulus p is made
pub record Has (moduli : List ℕ) (p a : ℕ) : Type 0 where
  pub made : a < length moduli
  pub modulus : get_or moduli a 0 ≡ p

-- a gate takes wires that are made, of the modulus that it says
pub data Suits (moduli : List ℕ) : PartGate → Type 0 where
  sum : {p a b : ℕ} → Has moduli p a → Has moduli p b → Suits moduli (Sum p a b)
  product : {p a b : ℕ} → Has moduli p a → Has moduli p b → Suits moduli (Product p a b)
  multiple : {p constant a : ℕ} → 0 < constant → constant < p → p < 256 → Has moduli p a → Suits moduli (Multiple p constant a)
  image : {p q a : ℕ} {table : ℕ → ℕ} → 0 < p → is_modulus q ≡ true → q < 256 → Has moduli p a → Below p q table → Suits moduli (Image p q a table)

-- .. and so do gates one after another
pub data AllSuit : List ℕ → List PartGate → Type 0 where
  none : {moduli : List ℕ} → AllSuit moduli []
  more : {moduli : List ℕ} {gate : PartGate} {gates : List PartGate} → Suits moduli gate → AllSuit (moduli ++ (modulus_of gate ∷ [])) gates → AllSuit moduli (gate ∷ gates)

-- the wire that a gate makes, whose words stand at an index
abbrev pub part_wire : ℕ → PartGate → Wire
part_wire at (Sum p a b) = wire_of (Add (pair_of a b)) p
part_wire at (Product p a b) = wire_of (Multiply (pair_of a b)) p
part_wire at (Multiple p constant a) = wire_of (Scale (record { constant = constant; a = a })) p
part_wire at (Image p q a table) = wire_of (Project (record { a = a; table = at + 1 })) q

unfoldable pub part_wires : ℕ → List PartGate → List Wire
part_wires at [] = []
part_wires at (gate ∷ gates) = part_wire at gate ∷ part_wires (at + length (map word_of (items_of gate))) gates

pub length_part_wires : (gates : List PartGate) (at : ℕ) → length (part_wires at gates) ≡ length gates
unfolding part_wires
length_part_wires [] at = refl
length_part_wires (gate ∷ gates) at = ap suc (length_part_wires gates _)

pub wire-modulus : (at : ℕ) (gate : PartGate) → (part_wire at gate).modulus ≡ modulus_of gate
wire-modulus at (Sum p a b) = refl
wire-modulus at (Product p a b) = refl
wire-modulus at (Multiple p constant a) = refl
wire-modulus at (Image p q a table) = refl

more-moduli : (wires : List Wire) (at : ℕ) (gate : PartGate) → moduli_of (wires ++ (part_wire at gate ∷ [])) ≡ moduli_of wires ++ (modulus_of gate ∷ [])
more-moduli wires at gate =
    map-append (λ (wire : Wire). wire.modulus) wires (part_wire at gate ∷ []) ∙ ap (λ (m : ℕ). moduli_of wires ++ (m ∷ [])) (wire-modulus at gate)

-- ---- a gate's items pass their checks

pub passed : {b : Bool} (reason : Refusal) (next : Step) → b ≡ true → check b reason next ≡ next
passed reason next e = sym (passes reason e refl)

module _ (moduli : List ℕ) (at : ℕ) (due : Due) (here : gate_due due ≡ true) (room : length moduli < 1024) where
  pair_makes : (gate : Gate) {p a b : ℕ} → Has moduli p a → Has moduli p b → pair_item moduli due gate a b ≡ Makes (wire_of gate p) Gates
  pair_makes gate {p} {a} {b} f g =
      passed _ _ here
      ∙ passed _ _ (ap₂ ◌&&◌ (lt-ltb a (length moduli) f.made) (lt-ltb b (length moduli) g.made))
      ∙ passed _ _ (eq-eqb (get_or moduli a 0) (get_or moduli b 0) (f.modulus ∙ sym g.modulus))
      ∙ passed _ _ (lt-ltb (length moduli) 1024 room)
      ∙ ap (λ (m : ℕ). Makes (wire_of gate m) Gates) f.modulus

  scale_makes : {p constant a : ℕ} → 0 < constant → constant < p → Has moduli p a → scale_item moduli due constant a ≡ Makes (wire_of (Scale (record { constant = constant; a = a })) p) Gates
  scale_makes {p} {constant} {a} some small f =
      passed _ _ here
      ∙ passed _ _ (lt-ltb a (length moduli) f.made)
      ∙ passed _ _ (ap₂ ◌&&◌ (lt-ltb 0 constant some) (lt-ltb constant (get_or moduli a 0) (rw f.modulus small)))
      ∙ passed _ _ (lt-ltb (length moduli) 1024 room)
      ∙ ap (λ (m : ℕ). Makes (wire_of (Scale (record { constant = constant; a = a })) m) Gates) f.modulus

  project_makes : {p q a : ℕ} → is_modulus q ≡ true → Has moduli p a
      → project_item moduli at due q a ≡ Makes (wire_of (Project (record { a = a; table = at + 1 })) q) (Entries p q)
  project_makes {p} {q} {a} prime f =
      passed _ _ here
      ∙ passed _ _ prime
      ∙ passed _ _ (lt-ltb a (length moduli) f.made)
      ∙ passed _ _ (lt-ltb (length moduli) 1024 room)
      ∙ ap (λ (m : ℕ). Makes (wire_of (Project (record { a = a; table = at + 1 })) q) (Entries m q)) f.modulus

-- ---- the words of a gate

pub first_word : {file : List ℕ} {at w : ℕ} {ws : List ℕ} → Stands file at (w ∷ ws) → word_at file at ≡ w
first_word {file} {at} s = ap (word_at file) (sym (add-zero at)) ∙ s.word 0 (omega arith)

pub entry_word : {file : List ℕ} {at : ℕ} (p q a : ℕ) (table : ℕ → ℕ) → Stands file at (map word_of (items_of (Image p q a table))) → (v : ℕ) → v < p → word_at file (at + suc v) ≡ word_of (item.TheVariants.Entry (table v))
entry_word p q a table s v l =
    let f : ℕ → Item = λ i. item.TheVariants.Entry (table i) in
    let e : map word_of (tab p f) ≡ tab p (λ i. word_of (f i)) = map-tab f word_of p in
    s.word (suc v) (omega (arith, ap (length {A = ℕ}) e, length-tab p (λ i. word_of (f i))))
    ∙ ap (λ (l : List ℕ). get_or l v 0) e
    ∙ get_or-tab p (λ i. word_of (f i)) v 0 l

module _ {file : List ℕ} {at : ℕ} {due : Due} {wires : List Wire} {outputs : List ℕ} (reach : Reach file at due wires outputs) where
  pub said : {x : Item} → word_at file at ≡ word_of x → Fits x → {s : Step} → judged (moduli_of wires) (length outputs) at due x ≡ s → read_word (moduli_of wires) (length outputs) at due (word_at file at) ≡ s
  said e f g = ap (read_word (moduli_of wires) (length outputs) at due) e ∙ read_encoded (moduli_of wires) (length outputs) at due f ∙ g

  to_next : {n : ℕ} {next : Due} {more : List Wire} → n ≡ suc at → Reach file (suc at) next more outputs → Reach file n next more outputs
  to_next {next = next} {more} e r = subst (λ (n : ℕ). Reach file n next more outputs) (sym e) r

-- the entries of a table, from a value on
module _ {file : List ℕ} {at : ℕ} (p q a : ℕ) (table : ℕ → ℕ) {wires : List Wire} {outputs : List ℕ} (stands : Stands file at (map word_of (items_of (Image p q a table)))) (small : q < 256) (images : Below p q table) where
  entry_read : {left v : ℕ} → v < p → Reach file (at + suc v) (Entries left q) wires outputs
      → read_word (moduli_of wires) (length outputs) (at + suc v) (Entries left q) (word_at file (at + suc v)) ≡ Goes (after_entry left q)
  entry_read {left} {v} l r =
      let fine : table v < q = images.below v l in
      said r (entry_word p q a table stands v l) (Fits.entry (omega (arith, fine))) (passed _ _ (lt-ltb (table v) q fine))

  entries : (left v : ℕ) → v + suc left ≡ p → Reach file (at + suc v) (Entries (suc left) q) wires outputs → Reach file (at + suc p) Gates wires outputs
  unfolding after_entry
  entries zero v e r =
      let n : suc (at + suc v) ≡ at + suc p = omega arith in
      subst (λ (n : ℕ). Reach file n Gates wires outputs) n (Reach.goes r (entry_read (omega arith) r))
  entries (suc others) v e r =
      let n : suc (at + suc v) ≡ at + suc (suc v) = omega arith in
      entries others (suc v) (omega arith) (subst (λ (n : ℕ). Reach file n (Entries (suc others) q) wires outputs) n (Reach.goes r (entry_read (omega arith) r)))

  all_entries : (n : ℕ) → n ≡ p → 0 < n → Reach file (at + suc zero) (Entries n q) wires outputs → Reach file (at + suc p) Gates wires outputs
  all_entries zero e h r = absurd (omega arith)
  all_entries (suc left) e h r = entries left 0 (omega arith) r

-- ---- a gate makes its wire

module _ {file : List ℕ} {at : ℕ} {due : Due} {wires : List Wire} {outputs : List ℕ} (reach : Reach file at due wires outputs) (here : gate_due due ≡ true) (room : length wires < 1024) where
  spare : length (moduli_of wires) < 1024
  spare = omega (arith, made wires)

  narrow : {p a : ℕ} → Has (moduli_of wires) p a → a < 1024
  narrow f = omega (arith, f.made, spare)

  one_word : {x : Item} {wire : Wire}
      → Stands file at (word_of x ∷ [])
      → Fits x
      → judged (moduli_of wires) (length outputs) at due x ≡ Makes wire Gates
      → Reach file (at + 1) Gates (wires ++ (wire ∷ [])) outputs
  one_word s f e = to_next reach (omega arith) (Reach.makes reach (said reach (first_word s) f e))

  gate_step : {gate : PartGate}
      → Suits (moduli_of wires) gate
      → Stands file at (map word_of (items_of gate))
      → Reach file (at + length (map word_of (items_of gate))) Gates (wires ++ (part_wire at gate ∷ [])) outputs
  gate_step (Suits.sum {p} {a} {b} f g) s =
      one_word s (Fits.add (narrow f) (narrow g)) (pair_makes (moduli_of wires) at due here spare (Add (pair_of a b)) f g)
  gate_step (Suits.product {p} {a} {b} f g) s =
      one_word s (Fits.multiply (narrow f) (narrow g)) (pair_makes (moduli_of wires) at due here spare (Multiply (pair_of a b)) f g)
  gate_step (Suits.multiple some below small f) s =
      one_word s (Fits.scale (omega (arith, below, small)) (narrow f)) (scale_makes (moduli_of wires) at due here spare some below f)
  gate_step (Suits.image {p} {q} {a} {table} some prime small f images) s =
      let begun : Reach file (at + 1) (Entries p q) (wires ++ (part_wire at (Image p q a table) ∷ [])) outputs =
      to_next reach (omega arith) (Reach.makes reach (said reach (first_word s) (Fits.project small (narrow f)) (project_makes (moduli_of wires) at due here spare prime f))) in
      let count : at + suc p ≡ at + length (map word_of (items_of (Image p q a table))) =
      ap (λ (n : ℕ). at + suc n) (sym (ap (length {A = ℕ}) (map-tab (λ i. item.TheVariants.Entry (table i)) word_of p) ∙ length-tab p (λ i. word_of (item.TheVariants.Entry (table i))))) in
      subst (λ (n : ℕ). Reach file n Gates (wires ++ (part_wire at (Image p q a table) ∷ [])) outputs) count (all_entries p q a table s small images p refl some begun)

-- ---- where the words of a gate stand in an accepted circuit, a gate is due

due-from : (b : Bool) (next : Step) → (check b NotDue next ≡ Step.Refused NotDue → ⊥) → b ≡ true
unfolding check
due-from true next n = refl
due-from false next n = absurd (n refl)

module _ {file : List ℕ} {at : ℕ} {due : Due} {wires : List Wire} {outputs : List ℕ} (reach : Reach file at due wires outputs) (good : (read_file file).answer ≡ accepts) (most : length wires ≤ 1024) where
  fits_wire : {p a : ℕ} → Has (moduli_of wires) p a → a < 1024
  fits_wire f = omega (arith, f.made, made wires, most)

  stopped : {x : Item} {ws : List ℕ} → Stands file at (word_of x ∷ ws) → Fits x → judged (moduli_of wires) (length outputs) at due x ≡ Step.Refused NotDue → ⊥
  stopped s f e = not-refused reach good (omega (arith, s.inside)) (said reach (first_word s) f e)

  pub starts : {gate : PartGate} → Suits (moduli_of wires) gate → Stands file at (map word_of (items_of gate)) → gate_due due ≡ true
  starts (Suits.sum f g) s = due-from (gate_due due) _ (stopped s (Fits.add (fits_wire f) (fits_wire g)))
  starts (Suits.product f g) s = due-from (gate_due due) _ (stopped s (Fits.multiply (fits_wire f) (fits_wire g)))
  starts (Suits.multiple some below small f) s = due-from (gate_due due) _ (stopped s (Fits.scale (omega (arith, below, small)) (fits_wire f)))
  starts (Suits.image some prime small f images) s = due-from (gate_due due) _ (stopped s (Fits.project small (fits_wire f)))

-- ---- a part makes its wires

-- a gate is due where the reader has come to
pub record Arrived (file : List ℕ) (at : ℕ) (wires : List Wire) (outputs : List ℕ) : Type 0 where
  pub due : Due
  pub here : gate_due due ≡ true
  pub reach : Reach file at due wires outputs

-- one gate more, with the others before the reader
module _ {file : List ℕ} {at : ℕ} {wires : List Wire} {outputs : List ℕ} {gate : PartGate} (gates : List PartGate)
    (arrived : Arrived file at wires outputs) (suit : Suits (moduli_of wires) gate) (room : length wires + suc (length gates) ≤ 1024)
    (stands : Stands file at (words_of (gate ∷ gates))) where
  pub step_on : Arrived file (at + length (map word_of (items_of gate))) (wires ++ (part_wire at gate ∷ [])) outputs
  unfolding words_of
  step_on = record { due = Gates; here = refl; reach = gate_step arrived.reach arrived.here (omega arith) suit (stands_left (map word_of (items_of gate)) (words_of gates) stands) }

  pub stands_on : Stands file (at + length (map word_of (items_of gate))) (words_of gates)
  unfolding words_of
  stands_on = stands_right (map word_of (items_of gate)) (words_of gates) stands

  pub room_on : length (wires ++ (part_wire at gate ∷ [])) + length gates ≤ 1024
  room_on = omega (arith, length_more wires (part_wire at gate))

-- the moduli are those of the wires so far
pub suits_wires : {moduli : List ℕ} {gate : PartGate} (wires : List Wire) → moduli_of wires ≡ moduli → Suits moduli gate → Suits (moduli_of wires) gate
suits_wires {gate = gate} wires e f = subst (λ (moduli : List ℕ). Suits moduli gate) (sym e) f

pub moduli_on : {moduli : List ℕ} (wires : List Wire) (at : ℕ) (gate : PartGate) → moduli_of wires ≡ moduli → moduli_of (wires ++ (part_wire at gate ∷ [])) ≡ moduli ++ (modulus_of gate ∷ [])
moduli_on wires at gate e = more-moduli wires at gate ∙ ap (λ (moduli : List ℕ). moduli ++ (modulus_of gate ∷ [])) e

pub advance : {file : List ℕ} {at : ℕ} {wires : List Wire} {outputs moduli : List ℕ} {gates : List PartGate}
    → Arrived file at wires outputs
    → moduli_of wires ≡ moduli
    → AllSuit moduli gates
    → length wires + length gates ≤ 1024
    → Stands file at (words_of gates)
    → Arrived file (at + length (words_of gates)) (wires ++ part_wires at gates) outputs
unfolding words_of part_wires
advance {file} {at} {wires} {outputs} r e AllSuit.none room s =
    subst (λ (n : ℕ). Arrived file n (wires ++ []) outputs) (sym (add-zero at)) (subst (λ (ws : List Wire). Arrived file at ws outputs) (sym (append-nil wires)) r)
advance {file} {at} {wires} {outputs} r e (AllSuit.more {gate = gate} {gates = gates} suit suits) room s =
    let size : ℕ = length (map word_of (items_of gate)) in
    let f = suits_wires wires e suit in
    let next = advance {at = at + size} {wires = wires ++ (part_wire at gate ∷ [])} (step_on gates r f room s) (moduli_on wires at gate e) suits (room_on gates r f room s) (stands_on gates r f room s) in
    let n : at + size + length (words_of gates) ≡ at + length (map word_of (items_of gate) ++ words_of gates) = omega (arith, length-append (map word_of (items_of gate)) (words_of gates)) in
    subst (λ (n : ℕ). Arrived file n (wires ++ (part_wire at gate ∷ part_wires (at + size) gates)) outputs) n
    (subst (λ (ws : List Wire). Arrived file (at + size + length (words_of gates)) ws outputs) (append_assoc wires (part_wire at gate ∷ []) (part_wires (at + size) gates)) next)

-- ---- gates that take none of their own wires

has_more : {moduli : List ℕ} {p a : ℕ} (m : ℕ) → Has moduli p a → Has (moduli ++ (m ∷ [])) p a
has_more {moduli} {p} {a} m f = record { made = omega (arith, length-append moduli (m ∷ []), f.made); modulus = get_or-append moduli (m ∷ []) 0 a f.made ∙ f.modulus }

suits_more : {moduli : List ℕ} {gate : PartGate} (m : ℕ) → Suits moduli gate → Suits (moduli ++ (m ∷ [])) gate
suits_more m (Suits.sum f g) = Suits.sum (has_more m f) (has_more m g)
suits_more m (Suits.product f g) = Suits.product (has_more m f) (has_more m g)
suits_more m (Suits.multiple some below small f) = Suits.multiple some below small (has_more m f)
suits_more m (Suits.image some prime small f images) = Suits.image some prime small (has_more m f) images

-- each of them suits the wires before the part
pub record EachSuits (moduli : List ℕ) (gates : List PartGate) : Type 0 where
  pub suits : (i : ℕ) → i < length gates → Suits moduli (get_or gates i (Sum 0 0 0))

pub apart : (gates : List PartGate) {moduli : List ℕ} → EachSuits moduli gates → AllSuit moduli gates
apart [] e = AllSuit.none
apart (gate ∷ gates) e =
    AllSuit.more (e.suits 0 (omega arith)) (apart gates (record { suits = λ i l. suits_more (modulus_of gate) (e.suits (suc i) (omega arith)) }))
