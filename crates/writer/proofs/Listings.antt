-- Laws of loading: the numbers of records and the records made of them, the tables and their sizes, and what the lengths that are right give.
-- Assumes nothing.
use mathlib.Core.Path.{◌≡◌, refl, sym, ap, ap₂, subst, ◌∙◌}
use mathlib.Core.List.{List, [], ◌∷◌, ◌++◌, map, zip_with}
use Prim.Native.Nat.{ℕ, zero, suc, ◌+◌, ◌-◌, ◌*◌, ◌≤◌, ◌<◌, min}
use native.Mathlib.Omega.{arith}
use lib.ListN.{length, get_or, replicate, length-append, length-map, get_or-map}
use Rattle.std.proofs.lemmas.List.{ext_get_or}
use lib.Seq.{length-take-le}
use Rattle.lists.specs.Blocks.{blocks, tab, sum_to}
use Rattle.lists.proofs.Blocks.{length-blocks, length-tab}
use Rattle.lists.proofs.Steps.{Steps, steps_start, steps_whole}
use Rattle.residue.proofs.Moduli.{is_prime→Prime}
use Rattle.checks.proofs.Passed.{afterwards_passed}
use Rattle.checks.proofs.Answers.{afterwards-refused, and_then-next, reports}
use Rattle.words.specs.Bits.{word_at, image}
use Rattle.words.specs.declared.gate.Projection.{Projection}
use Rattle.words.specs.declared.gate.Gate.{Gate}
use Rattle.words.specs.declared.gate.Gate.TheVariants.{Input, Add, Scale, Multiply, Project, Select}
use Rattle.words.specs.declared.gate.Wire.{Wire}
use Rattle.circuit.specs.declared.Circuit.{Circuit}
use Rattle.circuit.specs.Wires.{no_wire, wire_at, modulus_at, moduli_of}
use Rattle.circuit.specs.File.{read_file}
use Rattle.circuit.specs.Accepted.{ProjectionFits, GateFits, AcceptedCircuit}
use Rattle.circuit.specs.Held.{wires_in, outputs_in, named_in, Held, Holds}
use Rattle.circuit.proofs.Accepted.{accepted}
use Rattle.counts.specs.Counts.{Counts}
use Rattle.counts.proofs.Wires.{padded-modulus}
use Rattle.session.specs.Session.{lengths_checked}
use Rattle.session.proofs.Sessions.{lengths_same}
use Rattle.session.proofs.Circuits.{made-is}
use Rattle.writer.specs.declared.entry.Record.{Record}
use Rattle.writer.specs.Listed.{wire_record, output_record, records_of, table_of, tables_of}
use Rattle.writer.specs.Call.{records_read, tables_read, records_checked, RecordsCall}
use Rattle.writer.specs.Listing.{entries_by, entries_of, entries_in, table_in, Inside, Fills}
use Rattle.std.specs.Prelude.{Err}
use Rattle.checks.specs.declared.Refused.{Refused}
use Rattle.checks.specs.Answer.{Answer, accepts, number_in, place_in}

-- ---- the records of a circuit

-- the records of outputs: as many as there are, and each with whom it names
length-outputs : (outputs named : List ℕ) → length (zip_with output_record outputs named) ≡ min (length outputs) (length named)
unfolding zip_with
length-outputs [] named = omega arith
length-outputs (wire ∷ outputs) [] = omega arith
length-outputs (wire ∷ outputs) (parties ∷ named) = omega (arith, length-outputs outputs named)

output_at : (outputs named : List ℕ) → length named ≡ length outputs → (i : ℕ)
    → get_or (zip_with output_record outputs named) i (output_record 0 0) ≡ output_record (get_or outputs i 0) (get_or named i 0)
unfolding zip_with
output_at [] [] e i = refl
output_at [] (parties ∷ named) e i = absurd (omega arith)
output_at (wire ∷ outputs) [] e i = absurd (omega arith)
output_at (wire ∷ outputs) (parties ∷ named) e zero = refl
output_at (wire ∷ outputs) (parties ∷ named) e (suc i) = output_at outputs named (omega arith) i

-- records that are those of wires, or of outputs, one by one
pub wires_listed : (records : List Record) (wires : List Wire) → length records ≡ length wires
    → ((w : ℕ) → w < length wires → get_or records w (wire_record no_wire) ≡ wire_record (wire_at wires w)) → records ≡ map wire_record wires
wires_listed records wires e f =
    ext_get_or (wire_record no_wire) records (map wire_record wires) (e ∙ sym (length-map wires wire_record))
    (λ w h. f w (omega arith) ∙ sym (get_or-map wire_record wires w no_wire))

pub outputs_listed : (records : List Record) (outputs named : List ℕ) → length records ≡ length outputs → length named ≡ length outputs
    → ((i : ℕ) → i < length records → get_or records i (output_record 0 0) ≡ output_record (get_or outputs i 0) (get_or named i 0))
    → records ≡ zip_with output_record outputs named
outputs_listed records outputs named e k f =
    ext_get_or (output_record 0 0) records (zip_with output_record outputs named) (omega (arith, length-outputs outputs named))
    (λ i h. f i h ∙ sym (output_at outputs named k i))

named_is : {circuit : Circuit} → Held circuit → length (named_in circuit) ≡ circuit.given
named_is {circuit} held = length-take-le circuit.given circuit.named (omega (arith, held.given, held.named))

-- ---- the sizes of tables

entries_same : (gate : Gate) (f g : ℕ → ℕ) → ((a : ℕ) → f a ≡ g a) → entries_by gate f ≡ entries_by gate g
entries_same (Input g) f f' e = refl
entries_same (Add g) f f' e = refl
entries_same (Scale g) f f' e = refl
entries_same (Multiply g) f f' e = refl
entries_same (Project g) f f' e = e g.a
entries_same (Select g) f f' e = refl

-- where the gate is known
pub entries_by_lem : (f : ℕ → ℕ) {gate gate' : Gate} {r : ℕ} → gate ≡ gate' → Counts 255 (entries_by gate f) r → Counts 255 (entries_by gate' f) r
entries_by_lem f {r = r} e h = subst (λ (g : Gate). Counts 255 (entries_by g f) r) e h

-- by the table of moduli
pub entries_at : (wires : List Wire) (w n : ℕ) {table : List ℕ} {gate : Gate} → gate ≡ (wire_at wires w).gate → table ≡ moduli_of wires ++ replicate n 0
    → entries_by gate (λ a. get_or table a 0) ≡ entries_of wires w
entries_at wires w n {table} {gate} k e =
    entries_same gate (λ a. get_or table a 0) (modulus_at wires) (λ a. ap (λ (l : List ℕ). get_or l a 0) e ∙ padded-modulus wires n a)
    ∙ ap (λ (g : Gate). entries_by g (modulus_at wires)) k

length-table : (file : List ℕ) (wires : List Wire) (gate : Gate) → length (table_of file wires gate) ≡ entries_by gate (modulus_at wires)
length-table file wires (Input g) = refl
length-table file wires (Add g) = refl
length-table file wires (Scale g) = refl
length-table file wires (Multiply g) = refl
length-table file wires (Project g) = length-tab (modulus_at wires g.a) (λ v. image (word_at file (g.table + v)))
length-table file wires (Select g) = refl

pub length-tables : (file : List ℕ) (wires : List Wire) → length (tables_of file wires) ≡ entries_in wires
length-tables file wires =
    length-blocks (length wires) (λ w. table_of file wires (wire_at wires w).gate) (entries_of wires) (λ w _. length-table file wires (wire_at wires w).gate)

pub length-records : (wires : List Wire) (outputs named : List ℕ) → length (records_of wires outputs named) ≡ length wires + min (length outputs) (length named)
length-records wires outputs named =
    length-append (map wire_record wires) (zip_with output_record outputs named) ∙ ap₂ ◌+◌ (length-map wires wire_record) (length-outputs outputs named)

-- ---- a part lent for a table

none : (xs : List ℕ) → length xs ≡ 0 → xs ≡ []
none [] e = refl
none (x ∷ xs) e = absurd (omega arith)

pub table_same : (file : List ℕ) (wires : List Wire) (gate : Gate) (table : List ℕ) → length table ≡ entries_by gate (modulus_at wires)
    → table_in file gate table ≡ table_of file wires gate
table_same file wires (Input g) table e = none table e
table_same file wires (Add g) table e = none table e
table_same file wires (Scale g) table e = none table e
table_same file wires (Multiply g) table e = none table e
table_same file wires (Project g) table e = ap (λ (n : ℕ). tab n (λ v. image (word_at file (g.table + v)))) e
table_same file wires (Select g) table e = none table e

-- where the gate is a projection
pub images-inside : {file : List ℕ} {gate : Gate} {g : Projection} {first size : ℕ} → Inside file gate size → gate ≡ Project g → first ≡ g.table
    → 4 * (first + size) ≤ length file
images-inside {file} {gate} {g} {first} {size} r e k = rw k (r.inside g e)

pub table_is : (file table : List ℕ) {gate : Gate} {g : Projection} {first : ℕ} {out : List ℕ} → gate ≡ Project g → first ≡ g.table
    → out ≡ tab (length table) (λ v. image (word_at file (first + v))) → out ≡ table_in file gate table
table_is file table e k h =
    h
    ∙ ap (λ (f : ℕ). tab (length table) (λ v. image (word_at file (f + v)))) k
    ∙ sym (ap (λ (gate : Gate). table_in file gate table) e)

-- the first byte of a word is its bits 7 to 0
pub image-byte : (file : List ℕ) (i : ℕ) → get_or file (4 * i) 0 < 256 → image (word_at file i) ≡ get_or file (4 * i) 0
image-byte file i h = omega arith

-- ---- the tables of an accepted circuit stand in its file

project_fits : {file : List ℕ} {wires : List Wire} {w : ℕ} {gate : Projection} → GateFits file wires w (Project gate) → ProjectionFits file wires w gate
project_fits (GateFits.project f) = f

last_entry : (table modulus words bytes : ℕ) → 0 < modulus → table + (modulus - 1) < words → 4 * words ≤ bytes → 4 * (table + modulus) ≤ bytes
last_entry table modulus words bytes h k l = omega arith

module _ {file : List ℕ} {wires : List Wire} {outputs : List ℕ} (fine : AcceptedCircuit file wires outputs) {w : ℕ} (made : w < length wires) where
  within : (gate : Projection) → ProjectionFits file wires w gate → 4 * (gate.table + modulus_at wires gate.a) ≤ length file
  within gate f =
      let some : 2 ≤ modulus_at wires gate.a = (is_prime→Prime (modulus_at wires gate.a) (fine.fits gate.a (omega (arith, f.lower))).prime).two in
      last_entry gate.table (modulus_at wires gate.a) _ (length file) (omega arith) (f.entries (modulus_at wires gate.a - 1) (omega arith)).inside (omega arith)

  pub table-inside : Inside file (wire_at wires w).gate (entries_of wires w)
  table-inside =
      record {
        inside =
            λ g e.
            subst (λ (gate : Gate). 4 * (g.table + entries_by gate (modulus_at wires)) ≤ length file) (sym e)
            (within g (project_fits (subst (GateFits file wires w) e (fine.fits w made).gate)));
      }

-- ---- the loop that fills the tables

module _ {file : List ℕ} {circuit : Circuit} {bytes : ℕ} (fills : Fills file circuit bytes) where
  abbrev wires : List Wire
  wires = wires_in circuit

  -- the loop's invariant: the tables of the first w wires stand
  abbrev pub Tables : List ℕ → ℕ → ℕ → List ℕ → Type 0
  Tables tables₀ w at tables = Steps tables₀ 0 w circuit.made (entries_of wires) (λ v. table_of file wires (wire_at wires v).gate) at tables

  all_entries : bytes ≡ sum_to circuit.made (entries_of wires)
  all_entries = fills.size ∙ ap (λ (n : ℕ). sum_to n (entries_of wires)) (made-is fills.held)

  pub tables_start : {tables₀ : List ℕ} → length tables₀ ≡ bytes → Tables tables₀ 0 0 tables₀
  tables_start e = steps_start (omega (arith, all_entries))

  -- the gate of wire w, whose table is next
  module _ {w : ℕ} (h : w < circuit.made) {gate : Gate} (k : gate ≡ (wire_at wires w).gate) where
    pub size-at : {n : ℕ} {moduli : List ℕ} → Counts 255 (entries_by gate (λ a. get_or moduli a 0)) n
        → moduli ≡ moduli_of wires ++ replicate (1024 - circuit.made) 0 → n ≡ entries_of wires w
    size-at c e = c.is ∙ entries_at wires w (1024 - circuit.made) k e

    pub table-ready : {n : ℕ} → n ≡ entries_of wires w → Inside file gate n
    table-ready {n} e =
        subst (λ (g : Gate). Inside file g n) (sym k) (subst (λ (size : ℕ). Inside file (wire_at wires w).gate size) (sym e) (fills.within w h))

    pub table-written : (table : List ℕ) → length table ≡ entries_of wires w → table_in file gate table ≡ table_of file wires (wire_at wires w).gate
    table-written table e = ap (λ (g : Gate). table_in file g table) k ∙ table_same file wires (wire_at wires w).gate table e

  pub tables-done : {tables₀ tables : List ℕ} {w at : ℕ} → length tables₀ ≡ bytes → Tables tables₀ w at tables → circuit.made ≤ w → tables ≡ tables_of file wires
  tables-done e r h =
      steps_whole r h (e ∙ all_entries)
      ∙ ap (λ (n : ℕ). blocks n (λ v. table_of file wires (wire_at wires v).gate)) (sym (made-is fills.held))

-- ---- the call: the reader's answer, and then that of the lengths

module _ {circuit : Circuit} (file : List ℕ) (h : Holds circuit (read_file file)) {entries : ℕ} (counted : Counts 261120 (entries_in (wires_in circuit)) entries) where
  -- the lengths that are wanted
  records_long : circuit.made + circuit.given ≡ length (records_read file)
  unfolding records_read
  records_long =
      omega
      (arith, h.made, h.given, length-records (read_file file).wires (read_file file).outputs (read_file file).named, sym (ap length h.named) ∙ named_is h.held)

  images_long : entries ≡ length (tables_read file)
  unfolding tables_read
  images_long = counted.is ∙ ap entries_in h.wires ∙ sym (length-tables file (read_file file).wires)

  module _ (room size : ℕ) {lent : Answer} (checked : lent ≡ lengths_checked (room ∷ size ∷ []) ((circuit.made + circuit.given) ∷ entries ∷ [])) where
    -- the call's answer is that of the lengths
    pub checks_met : lent ≡ records_checked file room size
    unfolding records_checked
    checks_met =
        checked
        ∙ ap (lengths_checked (room ∷ size ∷ [])) (ap₂ (λ (a b : ℕ). a ∷ b ∷ []) records_long images_long)
        ∙ sym (and_then-next _ h.accepted)

    module _ (e : lent ≡ accepts) where
      same : (room ∷ size ∷ []) ≡ ((circuit.made + circuit.given) ∷ entries ∷ [])
      same = lengths_same _ _ (sym checked ∙ e)

      pub room_is : room ≡ circuit.made + circuit.given
      room_is = ap (λ (l : List ℕ). get_or l 0 0) same

      accepted_here : AcceptedCircuit file (wires_in circuit) (read_file file).outputs
      accepted_here = subst (λ (w : List Wire). AcceptedCircuit file w (read_file file).outputs) (sym h.wires) (accepted file h.accepted)

      pub fills_of : Fills file circuit size
      fills_of =
          record {
            held = h.held;
            within = λ w l. table-inside accepted_here (omega (arith, made-is h.held));
            size = ap (λ (l : List ℕ). get_or l 1 0) same ∙ counted.is;
          }

  -- accepted: all is written
  pub lists : {records₀ records : List Record} {tables₀ tables : List ℕ} {lent : Answer}
      → lent ≡ lengths_checked (length records₀ ∷ length tables₀ ∷ []) ((circuit.made + circuit.given) ∷ entries ∷ []) → lent ≡ accepts
      → records ≡ records_of (wires_in circuit) (outputs_in circuit) (named_in circuit) → tables ≡ tables_of file (wires_in circuit)
      → RecordsCall file records₀ tables₀ 0 0 records tables
  unfolding records_read tables_read
  lists {records₀} {records} {tables₀} {tables} {lent} checked e r t =
      let all : accepts ≡ records_checked file (length records₀) (length tables₀) = sym e ∙ checks_met (length records₀) (length tables₀) checked in
      record {
        answer = reports all;
        records_are =
            r
            ∙ ap₂ (λ (w : List Wire) (o : List ℕ). records_of w o (named_in circuit)) h.wires h.outputs
            ∙ ap (records_of (read_file file).wires (read_file file).outputs) h.named
            ∙ sym (afterwards_passed (sym all) (records_read file) records₀);
        tables_are = t ∙ ap (tables_of file) h.wires ∙ sym (afterwards_passed (sym all) (tables_read file) tables₀);
      }

-- refused: all is as it was
pub lists_not : {file : List ℕ} {records₀ : List Record} {tables₀ : List ℕ} {why : Refused} {answer : Answer}
    → Err why ≡ records_checked file (length records₀) (length tables₀) → answer ≡ Err why
    → RecordsCall file records₀ tables₀ (number_in answer) (place_in answer) records₀ tables₀
lists_not {file} {records₀} {tables₀} {why} {answer} e f =
    record {
      answer = reports (f ∙ e);
      records_are = afterwards-refused (sym e) (records_read file) records₀;
      tables_are = afterwards-refused (sym e) (tables_read file) tables₀;
    }
