-- A record that is written is read as that record: what the reader has then is the list so far with the record at its end, and the table entries that the
-- record took.
-- Assumes nothing.
use mathlib.Core.Path.{◌≡◌, refl, sym, ap, ap₂, subst, ◌∙◌}
use mathlib.Core.Bool.{true, false, true≢false}
use mathlib.Core.List.{List, [], ◌∷◌, ◌++◌}
use Prim.Native.Nat.{ℕ, suc, ◌≤◌}
use lib.ListN.{length, get_or}
use Rattle.words.specs.Bits.{word_at, named}
use Rattle.words.specs.Items.{judged, gate_due, wire_of}
use Rattle.words.specs.Encode.{word_of, file_of}
use Rattle.words.specs.Fits.{Fits}
use Rattle.words.specs.declared.gate.Gate.{Gate}
use Rattle.words.specs.declared.gate.Wire.{Wire}
use Rattle.words.specs.declared.gate.Due.{Due}
use Rattle.words.specs.declared.gate.Due.TheVariants.{Gates, Branches}
use Rattle.words.specs.declared.gate.Step.{Step}
use Rattle.words.specs.declared.gate.Step.TheVariants.{Makes, Goes}
use Rattle.words.specs.declared.item.Item.{Item}
use Rattle.circuit.proofs.More.{length_more}
use Rattle.circuit.proofs.State.{State, at-gates}
use Rattle.writer.specs.declared.entry.Record.{Record}
use Rattle.writer.specs.Listed.{gate_record, tables_of}
use Rattle.writer.specs.Written.{Draft, drafted, laid, laid_all}
use Rattle.words.proofs.Judged.{Judged, judging}
use Rattle.editor.proofs.Encoded.{names_of, word-at}
use Rattle.editor.proofs.ForwardsDrafts.{Begins, begins_word, begins_trans, Then, words-after, tables_after, due-after, due_after, laid_begins, first_then, only_one, all_begins}
use Rattle.editor.proofs.ForwardsStep.{Early, InStep, inputs-gates, none_yet, is_refused, not-refused, sayable, wires_after, outputs_after, laid-fits, step}
use Rattle.editor.proofs.ForwardsRecords.{Alone, alone_sayable}
use Rattle.editor.proofs.ForwardsListed.{records_before, one_output, one-wire, no_table}

-- reader and writer in step, with the list that is read so far, and all table entries: those that are read and those that are left
pub record Carried (all : List ℕ) (d : Draft) (done : List Record) (tables : List ℕ) : Type 0 where
  pub wires : List Wire
  pub outputs : List ℕ
  pub in_step : InStep all d wires outputs
  pub records_are : records_before (file_of all) (length d.words) wires outputs ≡ done
  pub tables_are : tables_of (file_of all) wires ++ d.tables ≡ tables

-- ---- a record of one item

-- its word stands at an index, and its fields fit
record Here (file : List ℕ) (at : ℕ) (x : Item) : Type 0 where
  stands : word_at file at ≡ word_of x
  fits : Fits x

module _ (file : List ℕ) (wires : List Wire) {moduli outputs : List ℕ} {given at : ℕ} where
  alone_records :
      {due : Due} {x : Item} {r : Record} {s : Step}
      → Alone x r
      → Judged moduli given at due x s
      → is_refused s ≡ false
      → Early due outputs
      → length outputs ≤ at
      → Here file at x
      → records_before file (suc at) (wires_after s wires) (outputs_after s outputs) ≡ records_before file at wires outputs ++ (r ∷ [])
  alone_records Alone.input Judged.refused h y l w = absurd (true≢false h)
  alone_records {due = due} Alone.input (Judged.input room short party) h y l w = one-wire wires _ _ _ (none_yet y (inputs-gates due room.due))
  alone_records Alone.add Judged.refused h y l w = absurd (true≢false h)
  alone_records Alone.add (Judged.add room two) h y l w = one-wire wires _ _ _ (none_yet y room.due)
  alone_records Alone.scale Judged.refused h y l w = absurd (true≢false h)
  alone_records Alone.scale (Judged.scale room lower below) h y l w = one-wire wires _ _ _ (none_yet y room.due)
  alone_records Alone.multiply Judged.refused h y l w = absurd (true≢false h)
  alone_records Alone.multiply (Judged.multiply room two) h y l w = one-wire wires _ _ _ (none_yet y room.due)
  alone_records (Alone.output byte) Judged.refused h y l w = absurd (true≢false h)
  alone_records (Alone.output {named = n} {a} byte) (Judged.output here lower few) h y l w =
      one_output file at wires outputs _ l (ap named w.stands ∙ names_of n a w.fits)

  alone_tables :
      {due : Due} {x : Item} {r : Record} {s : Step}
      → Alone x r
      → Judged moduli given at due x s
      → is_refused s ≡ false
      → State file at due wires outputs
      → tables_of file (wires_after s wires) ≡ tables_of file wires
  alone_tables Alone.input Judged.refused h st = absurd (true≢false h)
  alone_tables {due = due} Alone.input (Judged.input room short party) h st = no_table file wires _ (at-gates st (inputs-gates due room.due)) refl
  alone_tables Alone.add Judged.refused h st = absurd (true≢false h)
  alone_tables Alone.add (Judged.add room two) h st = no_table file wires _ (at-gates st room.due) refl
  alone_tables Alone.scale Judged.refused h st = absurd (true≢false h)
  alone_tables Alone.scale (Judged.scale room lower below) h st = no_table file wires _ (at-gates st room.due) refl
  alone_tables Alone.multiply Judged.refused h st = absurd (true≢false h)
  alone_tables Alone.multiply (Judged.multiply room two) h st = no_table file wires _ (at-gates st room.due) refl
  alone_tables (Alone.output byte) Judged.refused h st = absurd (true≢false h)
  alone_tables (Alone.output byte) (Judged.output here lower few) h st = refl

module _ {all : List ℕ} {d e : Draft} {done : List Record} {tables : List ℕ} (c : Carried all d done tables) (b : Begins e.words all) where
  pub alone_taken : {x : Item} {r : Record} → Alone x r → laid d x ≡ drafted e → Carried all e (done ++ (r ∷ [])) tables
  alone_taken {x} {r} only h =
      let j = judging d.moduli d.given (length d.words) d.due x in
      let s = judged d.moduli d.given (length d.words) d.due x in
      let longer : length e.words ≡ suc (length d.words) = sym (ap (length {A = ℕ}) (words-after d x s h)) ∙ length_more d.words (word_of x) in
      record {
        wires = wires_after s c.wires;
        outputs = outputs_after s c.outputs;
        in_step = step c.in_step x (alone_sayable only) h b;
        records_are =
            ap (λ (k : ℕ). records_before (file_of all) k (wires_after s c.wires) (outputs_after s c.outputs)) longer
            ∙ alone_records (file_of all) c.wires only j (not-refused d x s h) c.in_step.early c.in_step.enough
            (record {
              stands = word-at all (length d.words) ∙ begins_word d.words (word_of x) (begins_trans (laid_begins d x h) b);
              fits = laid-fits c.in_step x (alone_sayable only) h;
            })
            ∙ ap (λ (rs : List Record). rs ++ (r ∷ [])) c.records_are;
        tables_are =
            ap₂ (◌++◌ {A = ℕ}) (alone_tables (file_of all) c.wires only j (not-refused d x s h) c.in_step.state) (sym (tables_after d x s h)) ∙ c.tables_are;
      }

-- ---- a selection: the bit's word, then the branches

module _ {moduli : List ℕ} {given at : ℕ} where
  select_did :
      {due : Due} {bit : ℕ} {s : Step}
      → Judged moduli given at due (Item.Select bit) s
      → is_refused s ≡ false
      → (s ≡ Goes (Branches bit)) × (gate_due due ≡ true)
  select_did Judged.refused h = absurd (true≢false h)
  select_did (Judged.select room lower) h = (refl, room.due)

  branches_did :
      {bit a b : ℕ} {s : Step}
      → Judged moduli given at (Branches bit) (Item.Branches a b) s
      → is_refused s ≡ false
      → s ≡ Makes (wire_of (Gate.Select (record { bit = bit; a = a; b = b })) (get_or moduli a 0)) Gates
  branches_did Judged.refused h = absurd (true≢false h)
  branches_did (Judged.branches two) h = refl

-- an item that only changes what is due
pub goes_on :
    {all : List ℕ} {d e : Draft} {wires : List Wire} {outputs : List ℕ} {then : Due} (x : Item)
    → InStep all d wires outputs
    → sayable x ≡ true
    → laid d x ≡ drafted e
    → Begins e.words all
    → judged d.moduli d.given (length d.words) d.due x ≡ Goes then
    → InStep all e wires outputs × (then ≡ e.due)
goes_on {all} {d} {e} {wires} {outputs} x p on h b i = (
  subst (λ (s : Step). InStep all e (wires_after s wires) (outputs_after s outputs)) i (step p x on h b),
  ap (λ (s : Step). due_after s d.due) (sym i) ∙ due-after d x _ h,
)

-- an item that makes a wire
pub makes_one :
    {all : List ℕ} {d e : Draft} {wires : List Wire} {outputs : List ℕ} {then : Due} {wire : Wire} (x : Item)
    → InStep all d wires outputs
    → sayable x ≡ true
    → laid d x ≡ drafted e
    → Begins e.words all
    → judged d.moduli d.given (length d.words) d.due x ≡ Makes wire then
    → InStep all e (wires ++ (wire ∷ [])) outputs × (then ≡ e.due)
makes_one {all} {d} {e} {wires} {outputs} x p on h b i = (
  subst (λ (s : Step). InStep all e (wires_after s wires) (outputs_after s outputs)) i (step p x on h b),
  ap (λ (s : Step). due_after s d.due) (sym i) ∙ due-after d x _ h,
)

module _ {all : List ℕ} {d e : Draft} {done : List Record} {tables : List ℕ} (c : Carried all d done tables) (b : Begins e.words all) where
  pub select_taken :
      (bit m n : ℕ)
      → laid_all d (Item.Select bit ∷ Item.Branches m n ∷ []) ≡ drafted e
      → Carried all e (done ++ (gate_record (Gate.Select (record { bit = bit; a = m; b = n })) 0 ∷ [])) tables
  select_taken bit m n h =
      let t : Then (laid d (Item.Select bit)) (λ (f : Draft). laid_all f (Item.Branches m n ∷ [])) e = first_then d (Item.Select bit) _ h in
      let f : Draft = t.middle in
      let g : laid f (Item.Branches m n) ≡ drafted e = only_one f (Item.Branches m n) t.second in
      let did = select_did (judging d.moduli d.given (length d.words) d.due (Item.Select bit)) (not-refused d (Item.Select bit) _ t.first) in
      let one = goes_on (Item.Select bit) c.in_step refl t.first (begins_trans (all_begins (Item.Branches m n ∷ []) f t.second) b) did.0 in
      let j : Judged f.moduli f.given (length f.words) (Branches bit) (Item.Branches m n)
      (judged f.moduli f.given (length f.words) f.due (Item.Branches m n)) =
      subst (λ (due : Due). Judged f.moduli f.given (length f.words) due (Item.Branches m n) (judged f.moduli f.given (length f.words) f.due (Item.Branches m n)))
      (sym one.1) (judging f.moduli f.given (length f.words) f.due (Item.Branches m n)) in
      let two = makes_one (Item.Branches m n) one.0 refl g b (branches_did j (not-refused f (Item.Branches m n) _ g)) in
      record {
        wires = c.wires ++ (wire_of (Gate.Select (record { bit = bit; a = m; b = n })) (get_or f.moduli m 0) ∷ []);
        outputs = c.outputs;
        in_step = two.0;
        records_are =
            one-wire c.wires _ _ _ (none_yet c.in_step.early did.1) ∙ ap (λ (rs : List Record). rs ++ (gate_record (Gate.Select (record { bit = bit; a = m; b = n })) 0 ∷ [])) c.records_are;
        tables_are =
            ap₂ (◌++◌ {A = ℕ}) (no_table (file_of all) c.wires _ (at-gates c.in_step.state did.1) refl)
            (sym (tables_after d (Item.Select bit) _ t.first ∙ tables_after f (Item.Branches m n) _ g))
            ∙ c.tables_are;
      }
