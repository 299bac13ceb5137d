-- What is true of the wires and outputs so far, by what is due at an index of the file, and that each word that is not refused
-- keeps it. The theorem on accepted files and the proof of the code both go by this.
-- Assumes nothing.
use mathlib.Core.Path.{◌≡◌, refl, ◌∙◌, sym, ap, subst}
use mathlib.Core.Logic.{⊎_elim}
use mathlib.Core.Bool.{true, false, true≢false}
use mathlib.Core.List.{List, [], ◌∷◌, ◌++◌}
use Prim.Native.Nat.{ℕ, zero, suc, ◌+◌, ◌*◌, ◌≤◌, ◌<◌}
use native.Mathlib.Nat.{mod-lt, not-suc-le-zero, zero-add, eq-or-lt_of_le, le_of_suc-le-suc}
use native.Mathlib.Omega.{arith}
use lib.Dec.{ltb}
use lib.ListN.{length, get_or, get_or-append}
use lib.Seq.{get_or-append_seam}
use borrow.Author.Tests.{lt-ltb, le-ltb, leb-true}
use Rattle.residue.specs.Prime.{is_prime}
use Rattle.residue.proofs.Table.{and_left}
use Rattle.checks.specs.declared.Refusal.{Refusal}
use Rattle.words.specs.Bits.{word_at}
use Rattle.words.specs.Items.{input_due, gate_due, output_due, after_entry, wire_of}
use Rattle.words.specs.Reading.{read_word}
use Rattle.words.specs.declared.gate.Projection.{Projection}
use Rattle.words.specs.declared.gate.Choice.{Choice}
use Rattle.words.specs.declared.gate.Gate.TheVariants.{Project, Select}
use Rattle.words.specs.declared.gate.Wire.{Wire}
use Rattle.words.specs.declared.gate.Due.{Due}
use Rattle.words.specs.declared.gate.Due.TheVariants.{Inputs, Gates, Outputs, Entries, Branches}
use Rattle.words.specs.declared.gate.Step.{Step}
use Rattle.words.specs.declared.gate.Step.TheVariants.{Refused, Makes, Goes, Gives, Ends}
use Rattle.circuit.specs.Wires.{wire_at, modulus_at, moduli_of, is_input, inputs_in}
use Rattle.circuit.specs.File.{words_in}
use Rattle.circuit.specs.Accepted.{Alike, EntryFits, GateFits, WireFits}
use Rattle.words.proofs.Judged.{Room, Two}
use Rattle.circuit.proofs.Word.{Did, did}
use Rattle.circuit.proofs.More.{made, modulus-of, length_more, modulus-kept, fits_kept, wire-kept, wire-new, modulus-new, fits-new, each, inputs_le, inputs-more}

-- what is true of the wires and outputs before an index: all of `AcceptedCircuit` but that there is an output; and the index is not
-- far, since a wire takes at most 257 words and an output one
pub record Sound (file : List ℕ) (at : ℕ) (wires : List Wire) (given : List ℕ) : Type 0 where
  pub wires_limit : length wires ≤ 1024
  pub outputs_limit : length given ≤ 256
  pub outputs_made : (i : ℕ) → i < length given → get_or given i 0 < length wires
  pub inputs_first : (w : ℕ) → w < length wires → is_input (wire_at wires w).gate ≡ ltb w (inputs_in wires)
  pub fits : (w : ℕ) → w < length wires → WireFits file wires w
  pub near : at ≤ 1 + 257 * length wires + length given

-- a table under way at an index, after the project word at t: of the projected wire's values the first ones have their entries, and
-- so many are left
pub record Table (file : List ℕ) (wires : List Wire) (gate : Projection) (q t at left : ℕ) : Type 0 where
  pub prime : is_prime q ≡ true
  pub byte : q < 256
  pub lower : gate.a < length wires
  pub lower_byte : modulus_at wires gate.a < 256
  pub some : 0 < left
  pub passed : ℕ
  pub start : gate.table ≡ suc t
  pub here : gate.table + passed ≡ at
  pub all : passed + left ≡ modulus_at wires gate.a
  pub entries : (v : ℕ) → v < passed → EntryFits file q (gate.table + v)

-- a selection under way: its bit is a wire of modulus 2, and there is room for the wire
pub record Choosing (wires : List Wire) (bit : ℕ) : Type 0 where
  pub room : length wires < 1024
  pub lower : bit < length wires
  pub binary : modulus_at wires bit ≡ 2

pub data State (file : List ℕ) (at : ℕ) : Due → List Wire → List ℕ → Type 0 where
  in_inputs : {wires : List Wire} {given : List ℕ} → Sound file at wires given → inputs_in wires ≡ length wires → State file at Inputs wires given
  in_gates : {wires : List Wire} {given : List ℕ} → Sound file at wires given → State file at Gates wires given
  in_outputs : {wires : List Wire} {given : List ℕ} → Sound file at wires given → State file at Outputs wires given
  in_table :
      {wires : List Wire} {given : List ℕ} {gate : Projection} {t left q : ℕ}
      → Sound file t wires given
      → length wires < 1024
      → Table file wires gate q t at left
      → State file at (Entries left q) (wires ++ (wire_of (Project gate) q ∷ [])) given
  in_choice :
      {wires : List Wire} {given : List ℕ} {t bit : ℕ}
      → Sound file t wires given
      → at ≡ suc t
      → Choosing wires bit
      → State file at (Branches bit) wires given

pub not-true : {A : Type 0} → false ≡ true → A
not-true e = absurd (true≢false (sym e))

-- a prime is not 0
positive : (p : ℕ) → is_prime p ≡ true → 0 < p
unfolding is_prime
positive p e = omega (arith, leb-true 2 p (and_left _ _ e))

module _ (file : List ℕ) (t at : ℕ) (wires : List Wire) (given : List ℕ) (x : Wire) (s : Sound file t wires given) (room : length wires < 1024)
    (close : at ≤ 257 + t) where
  -- a gate that is no input
  sound_gate : is_input x.gate ≡ false → WireFits file (wires ++ (x ∷ [])) (length wires) → Sound file at (wires ++ (x ∷ [])) given
  sound_gate e f =
      record {
        wires_limit = rw length_more (omega arith);
        outputs_limit = s.outputs_limit;
        outputs_made = λ i l. rw length_more (omega (arith, s.outputs_made i l));
        inputs_first =
            each wires x (λ w. is_input (wire_at (wires ++ (x ∷ [])) w).gate ≡ ltb w (inputs_in (wires ++ (x ∷ []))))
            (λ w l. rw (inputs-more wires x, e, wire-kept wires (x ∷ []) w l) (s.inputs_first w l))
            (rw (inputs-more wires x, e, wire-new wires x, e) (sym (le-ltb _ _ (inputs_le wires))));
        fits = each wires x (λ w. WireFits file (wires ++ (x ∷ [])) w) (λ w l. fits_kept file wires (x ∷ []) w l (s.fits w l)) f;
        near = rw length_more (omega (arith, s.near));
      }

  -- an input, where all so far are inputs
  sound_input :
      inputs_in wires ≡ length wires
      → is_input x.gate ≡ true
      → WireFits file (wires ++ (x ∷ [])) (length wires)
      → Sound file at (wires ++ (x ∷ [])) given
  sound_input all e f =
      record {
        wires_limit = rw length_more (omega arith);
        outputs_limit = s.outputs_limit;
        outputs_made = λ i l. rw length_more (omega (arith, s.outputs_made i l));
        inputs_first =
            each wires x (λ w. is_input (wire_at (wires ++ (x ∷ [])) w).gate ≡ ltb w (inputs_in (wires ++ (x ∷ []))))
            (λ w l. rw (inputs-more wires x, e, wire-kept wires (x ∷ []) w l)
            (s.inputs_first w l ∙ lt-ltb w (inputs_in wires) (omega arith) ∙ sym (lt-ltb w (suc (inputs_in wires)) (omega arith))))
            (rw (inputs-more wires x, e, wire-new wires x, e) (sym (lt-ltb (length wires) (suc (inputs_in wires)) (omega arith))));
        fits = each wires x (λ w. WireFits file (wires ++ (x ∷ [])) w) (λ w l. fits_kept file wires (x ∷ []) w l (s.fits w l)) f;
        near = rw length_more (omega (arith, s.near));
      }

-- one output more
sound_output :
    (file : List ℕ) (at : ℕ) (wires : List Wire) (given : List ℕ) (b : ℕ)
    → Sound file at wires given
    → b < length wires
    → length given < 256
    → Sound file (suc at) wires (given ++ (b ∷ []))
sound_output file at wires given b s l room =
    record {
      wires_limit = s.wires_limit;
      outputs_limit = rw length_more room;
      outputs_made =
          each given b (λ i. get_or (given ++ (b ∷ [])) i 0 < length wires)
          (λ i h. rw (get_or-append given (b ∷ []) 0 i h) (s.outputs_made i h))
          (rw (get_or-append_seam given b [] 0) l);
      inputs_first = s.inputs_first;
      fits = s.fits;
      near = rw (length_more given b) (omega (arith, s.near));
    }

-- what each kind of word that is due may go by
module _ {file : List ℕ} {at : ℕ} where
  at_inputs :
      {due : Due} {wires : List Wire} {given : List ℕ}
      → State file at due wires given
      → input_due due ≡ true
      → Sound file at wires given × (inputs_in wires ≡ length wires)
  at_inputs (in_inputs s all) e = (s, all)
  at_inputs (in_gates s) e = not-true e
  at_inputs (in_outputs s) e = not-true e
  at_inputs (in_table s room table) e = not-true e
  at_inputs (in_choice s begun choosing) e = not-true e

  pub at-gates : {due : Due} {wires : List Wire} {given : List ℕ} → State file at due wires given → gate_due due ≡ true → Sound file at wires given
  at-gates (in_inputs s all) e = s
  at-gates (in_gates s) e = s
  at-gates (in_outputs s) e = not-true e
  at-gates (in_table s room table) e = not-true e
  at-gates (in_choice s begun choosing) e = not-true e

  at_outputs : {due : Due} {wires : List Wire} {given : List ℕ} → State file at due wires given → output_due due ≡ true → Sound file at wires given
  at_outputs (in_inputs s all) e = s
  at_outputs (in_gates s) e = s
  at_outputs (in_outputs s) e = s
  at_outputs (in_table s room table) e = not-true e
  at_outputs (in_choice s begun choosing) e = not-true e

-- a wire that is made: its modulus is a prime below 256
record Fine (p : ℕ) : Type 0 where
  prime : is_prime p ≡ true
  byte : p < 256

fine :
    (file : List ℕ) (at : ℕ) (wires : List Wire) (given : List ℕ)
    → Sound file at wires given
    → (a : ℕ)
    → a < length (moduli_of wires)
    → Fine (get_or (moduli_of wires) a 0)
fine file at wires given s a l =
    let f : WireFits file wires a = s.fits a (rw made at l) in
    rw (modulus-of wires a) (record { prime = f.prime; byte = f.byte })

alike :
    (wires : List Wire) (x : Wire) (a : ℕ)
    → a < length (moduli_of wires)
    → get_or (moduli_of wires) a 0 ≡ x.modulus
    → Alike (wires ++ (x ∷ [])) (length wires) a
alike wires x a l e =
    let h : a < length wires = rw made at l in
    record { lower = h; same = modulus-kept wires (x ∷ []) a h ∙ sym (modulus-of wires a) ∙ e ∙ sym (modulus-new wires x) }

-- the entries of a table, one after the other
module _ (file : List ℕ) (t at : ℕ) (wires : List Wire) (given : List ℕ) (gate : Projection) (left q : ℕ)
    (s : Sound file t wires given) (room : length wires < 1024) (table : Table file wires gate q t at left) (fit : EntryFits file q at) where
  one_more : (v : ℕ) → v < suc table.passed → EntryFits file q (gate.table + v)
  one_more v l =
      ⊎_elim (λ (e : v ≡ table.passed). rw (e, table.here) fit) (λ (h : v < table.passed). table.entries v h) (eq-or-lt_of_le (le_of_suc-le-suc l))

  last : left ≡ 1 → GateFits file (wires ++ (wire_of (Project gate) q ∷ [])) (length wires) (Project gate)
  last e =
      GateFits.project {gate = gate}
      (record {
        lower = table.lower;
        entries =
            λ v l. rw (modulus-new wires (wire_of (Project gate) q))
            (one_more v (omega (arith, table.all, e, subst (λ (n : ℕ). v < n) (modulus-kept wires (wire_of (Project gate) q ∷ []) gate.a table.lower) l)));
      })

  one_left : left ≡ 1 → State file (suc at) Gates (wires ++ (wire_of (Project gate) q ∷ [])) given
  one_left e =
      in_gates
      (sound_gate file t (suc at) wires given _ s room (omega (arith, table.start, table.here, table.all, table.lower_byte)) refl
      (fits-new wires _ file table.prime table.byte (last e)))

  more_left : (others : ℕ) → left ≡ suc (suc others) → State file (suc at) (Entries (suc others) q) (wires ++ (wire_of (Project gate) q ∷ [])) given
  more_left others e =
      in_table {gate = gate} {left = suc others} s room
      (record {
        prime = table.prime;
        byte = table.byte;
        lower = table.lower;
        lower_byte = table.lower_byte;
        some = omega arith;
        passed = suc table.passed;
        start = table.start;
        here = omega (arith, table.here);
        all = omega (arith, table.all, e);
        entries = one_more;
      })

  after_one : (n : ℕ) → left ≡ n → State file (suc at) (after_entry n q) (wires ++ (wire_of (Project gate) q ∷ [])) given
  unfolding after_entry
  after_one zero e = absurd (omega (arith, table.some, e))
  after_one (suc zero) e = one_left e
  after_one (suc (suc others)) e = more_left others e

at_entry :
    {file : List ℕ} {at : ℕ} {wires : List Wire} {given : List ℕ} {left q : ℕ}
    → State file at (Entries left q) wires given
    → EntryFits file q at
    → State file (suc at) (after_entry left q) wires given
at_entry {file} {at} (in_table {wires} {given} {gate} {t} {left} {q} s room table) f =
    after_one file t at wires given gate left q s room table f left refl

-- the branches of a selection
module _ (file : List ℕ) (t : ℕ) (wires : List Wire) (given : List ℕ) (gate : Choice)
    (s : Sound file t wires given) (choosing : Choosing wires gate.bit) (two : Two (moduli_of wires) gate.a gate.b) where
  chosen : State file (suc (suc t)) Gates (wires ++ (wire_of (Select gate) (get_or (moduli_of wires) gate.a 0) ∷ [])) given
  chosen =
      let f : Fine (get_or (moduli_of wires) gate.a 0) = fine file t wires given s gate.a two.first in
      in_gates
      (sound_gate file t (suc (suc t)) wires given _ s choosing.room (omega arith) refl
      (fits-new wires _ file f.prime f.byte
      (GateFits.select {gate = gate}
      (record {
        lower = choosing.lower;
        binary = modulus-kept wires _ gate.bit choosing.lower ∙ choosing.binary;
        a = alike wires _ gate.a two.first refl;
        b = alike wires _ gate.b two.second (sym two.same);
      }))))

at-branches :
    {file : List ℕ} {at : ℕ} {wires : List Wire} {given : List ℕ} {bit : ℕ} (a b : ℕ)
    → State file at (Branches bit) wires given
    → Two (moduli_of wires) a b
    → State file (suc at) Gates (wires ++ (wire_of (Select (record { bit = bit; a = a; b = b })) (get_or (moduli_of wires) a 0) ∷ [])) given
at-branches {file} a b (in_choice {wires} {given} {t} {bit} s begun choosing) two =
    rw begun (chosen file t wires given (record { bit = bit; a = a; b = b }) s choosing two)

-- the states that other words lead to
module _ {file : List ℕ} {at : ℕ} {due : Due} {wires : List Wire} {given : List ℕ} (st : State file at due wires given) where
  make_gate :
      (x : Wire)
      → Room (gate_due due) (length (moduli_of wires))
      → is_input x.gate ≡ false
      → Fine x.modulus
      → GateFits file (wires ++ (x ∷ [])) (length wires) x.gate
      → State file (suc at) Gates (wires ++ (x ∷ [])) given
  make_gate x r e f g =
      in_gates
      (sound_gate file at (suc at) wires given x (at-gates st r.due) (rw made at r.room) (omega arith) e
      (fits-new wires x file f.prime f.byte g))

  make_input :
      (x : Wire)
      → Room (input_due due) (length (moduli_of wires))
      → is_input x.gate ≡ true
      → Fine x.modulus
      → GateFits file (wires ++ (x ∷ [])) (length wires) x.gate
      → State file (suc at) Inputs (wires ++ (x ∷ [])) given
  make_input x r e f g =
      let so : Sound file at wires given × (inputs_in wires ≡ length wires) = at_inputs st r.due in
      in_inputs
      (sound_input file at (suc at) wires given x so.0 (rw made at r.room) (omega arith) so.1 e
      (fits-new wires x file f.prime f.byte g))
      (rw (inputs-more wires x, e, length_more wires x) (ap suc so.1))

  make_project :
      (gate : Projection) (q : ℕ)
      → Room (gate_due due) (length (moduli_of wires))
      → Fine q
      → gate.a < length (moduli_of wires)
      → gate.table ≡ at + 1
      → State file (suc at) (Entries (get_or (moduli_of wires) gate.a 0) q) (wires ++ (wire_of (Project gate) q ∷ [])) given
  make_project gate q r f l e =
      let s : Sound file at wires given = at-gates st r.due in
      let g : Fine (get_or (moduli_of wires) gate.a 0) = fine file at wires given s gate.a l in
      in_table {gate = gate} s (rw made at r.room)
      (record {
        prime = f.prime;
        byte = f.byte;
        lower = rw made at l;
        lower_byte = rw (modulus-of wires gate.a) at g.byte;
        some = positive _ g.prime;
        passed = 0;
        start = omega (arith, e);
        here = omega (arith, e);
        all = zero-add _ ∙ modulus-of wires gate.a;
        entries = λ v h. absurd (not-suc-le-zero h);
      })

  make_select :
      (bit : ℕ)
      → Room (gate_due due) (length (moduli_of wires))
      → bit < length (moduli_of wires)
      → get_or (moduli_of wires) bit 0 ≡ 2
      → State file (suc at) (Branches bit) wires given
  make_select bit r l e =
      in_choice (at-gates st r.due) refl
      (record { room = rw made at r.room; lower = rw made at l; binary = sym (modulus-of wires bit) ∙ e })

-- what a word leaves behind, by what it does
pub data Next (file : List ℕ) (at : ℕ) (wires : List Wire) (given : List ℕ) : Step → Type 0 where
  stops : {reason : Refusal} → Next file at wires given (Refused reason)
  makes : {x : Wire} {due : Due} → State file (suc at) due (wires ++ (x ∷ [])) given → Next file at wires given (Makes x due)
  goes : {due : Due} → State file (suc at) due wires given → Next file at wires given (Goes due)
  gives : {b : ℕ} → State file (suc at) Outputs wires (given ++ (b ∷ [])) → Next file at wires given (Gives b)
  ends : Sound file at wires given → 0 < length given → Next file at wires given Ends

module _ (file : List ℕ) (at : ℕ) (inside : at < words_in file) where
  go :
      {due : Due} {wires : List Wire} {given : List ℕ} {s : Step}
      → State file at due wires given
      → Did (moduli_of wires) (length given) at due (word_at file at) s
      → Next file at wires given s
  go st Did.refused = stops
  go st (Did.input room prime owner) =
      makes (make_input st _ room refl (record { prime = prime; byte = mod-lt _ (omega arith) }) (GateFits.input (record { owner = owner })))
  go {wires = wires} {given} st (Did.add room two) =
      makes
      (make_gate st _ room refl (fine file at wires given (at-gates st room.due) _ two.first)
      (GateFits.add (record { a = alike wires _ _ two.first refl; b = alike wires _ _ two.second (sym two.same) })))
  go {wires = wires} {given} st (Did.multiply room two) =
      makes
      (make_gate st _ room refl (fine file at wires given (at-gates st room.due) _ two.first)
      (GateFits.multiply (record { a = alike wires _ _ two.first refl; b = alike wires _ _ two.second (sym two.same) })))
  go {wires = wires} {given} st (Did.scale room lower some below) =
      makes
      (make_gate st _ room refl (fine file at wires given (at-gates st room.due) _ lower)
      (GateFits.scale (record { a = alike wires _ _ lower refl; positive = some; below = rw (modulus-new wires) below })))
  go st (Did.project room prime lower) =
      makes (make_project st _ _ room (record { prime = prime; byte = mod-lt _ (omega arith) }) lower refl)
  go st (Did.entry here kind image) = goes (at_entry (rw here at st) (record { inside = inside; entry = kind; image = image }))
  go st (Did.select room lower binary) = goes (make_select st _ room lower binary)
  go st (Did.branches here two) = makes (at-branches _ _ (rw here at st) two)
  go {wires = wires} {given} st (Did.output here lower room) =
      gives (in_outputs (sound_output file at wires given _ (at_outputs st here) (rw made at lower) room))
  go st (Did.end here some) = ends (at_outputs st here) some

  -- each word keeps it
  pub next :
      (due : Due) (wires : List Wire) (given : List ℕ)
      → State file at due wires given
      → Next file at wires given (read_word (moduli_of wires) (length given) at due (word_at file at))
  next due wires given st = go st (did (moduli_of wires) (length given) at due (word_at file at))

-- before the first word after the head
pub nothing : (file : List ℕ) → State file 1 Inputs [] []
unfolding inputs_in
nothing file =
    in_inputs {wires = []} {given = []}
    (record {
      wires_limit = omega arith;
      outputs_limit = omega arith;
      outputs_made = λ i l. absurd (not-suc-le-zero l);
      inputs_first = λ w l. absurd (not-suc-le-zero l);
      fits = λ w l. absurd (not-suc-le-zero l);
      near = omega arith;
    })
    refl

-- bounds that the code needs
pub record Within (at : ℕ) (wires : List Wire) (given : List ℕ) : Type 0 where
  pub wires_limit : length wires ≤ 1024
  pub outputs_limit : length given ≤ 256
  pub near : at < 1000000

pub within : {file : List ℕ} {at : ℕ} {due : Due} {wires : List Wire} {given : List ℕ} → State file at due wires given → Within at wires given
within (in_inputs s all) = record { wires_limit = s.wires_limit; outputs_limit = s.outputs_limit; near = omega arith }
within (in_gates s) = record { wires_limit = s.wires_limit; outputs_limit = s.outputs_limit; near = omega arith }
within (in_outputs s) = record { wires_limit = s.wires_limit; outputs_limit = s.outputs_limit; near = omega arith }
within (in_table s room table) =
    record { wires_limit = rw length_more room; outputs_limit = s.outputs_limit; near = omega arith }
within (in_choice s begun choosing) = record { wires_limit = s.wires_limit; outputs_limit = s.outputs_limit; near = omega arith }
