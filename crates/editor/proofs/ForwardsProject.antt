-- A projection that is written is read as that projection, and its table as the entries that it took: all that its wire has values for.
-- Assumes nothing.
use mathlib.Core.Path.{◌≡◌, refl, sym, ap, ap₂, subst, ◌∙◌}
use mathlib.Core.Bool.{true, false, true≢false}
use mathlib.Core.List.{List, [], ◌∷◌, ◌++◌, map, append_assoc}
use Prim.Native.Nat.{ℕ, zero, suc, ◌+◌, ◌≤◌, ◌<◌}
use native.Mathlib.Nat.{not-suc-le-zero, add-zero}
use native.Mathlib.Omega.{arith}
use lib.ListN.{length, get_or, take, drop, length-take, take-append-drop}
use Rattle.lists.proofs.Blocks.{is-tab}
use Rattle.words.specs.Bits.{word_at, image}
use Rattle.words.specs.Items.{judged, gate_due, after_entry, wire_of}
use Rattle.words.specs.Encode.{word_of, file_of}
use Rattle.words.specs.Fits.{Fits}
use Rattle.words.specs.declared.gate.Gate.{Gate}
use Rattle.words.specs.declared.gate.Wire.{Wire}
use Rattle.words.specs.declared.gate.Due.{Due}
use Rattle.words.specs.declared.gate.Due.TheVariants.{Gates, Entries}
use Rattle.words.specs.declared.gate.Step.{Step}
use Rattle.words.specs.declared.gate.Step.TheVariants.{Makes, Goes}
use Rattle.words.specs.declared.item.Item.TheVariants.{Project, Entry}
use Rattle.circuit.specs.Wires.{modulus_at}
use Rattle.circuit.proofs.More.{made, modulus-of, modulus-kept, length_more}
use Rattle.circuit.proofs.State.{State, at-gates}
use Rattle.writer.specs.declared.entry.Record.{Record}
use Rattle.writer.specs.Listed.{gate_record, table_of, tables_of}
use Rattle.writer.specs.Written.{Draft, drafted, leaving, laid, laid_all, whole}
use Rattle.editor.proofs.Encoded.{word-at, entry-image}
use Rattle.words.proofs.Judged.{Judged, judging}
use Rattle.editor.proofs.ForwardsDrafts.{Begins, begins_word, begins_trans, same_draft, not_stopped, Then, words-after, tables_after, laid_begins, first_then, all_begins}
use Rattle.editor.proofs.ForwardsStep.{InStep, leaves, none_yet, is_refused, not-refused, laid-fits}
use Rattle.editor.proofs.ForwardsListed.{one-wire, one_table}
use Rattle.editor.proofs.ForwardsTaken.{Carried, goes_on, makes_one}

-- what is due where so many entries are left
abbrev due_for : ℕ → ℕ → Due
due_for zero modulus = Gates
due_for (suc left) modulus = Entries (suc left) modulus

after_one : (left modulus : ℕ) → after_entry (suc left) modulus ≡ due_for left modulus
unfolding after_entry
after_one zero modulus = refl
after_one (suc left) modulus = refl

some_left : {file : List ℕ} {at left modulus : ℕ} {wires : List Wire} {given : List ℕ} → State file at (Entries left modulus) wires given → 0 < left
some_left (State.in_table s room table) = table.some

due_some : (left modulus : ℕ) → 0 < left → Entries left modulus ≡ due_for left modulus
due_some zero modulus h = absurd (not-suc-le-zero h)
due_some (suc left) modulus h = refl

module _ {moduli : List ℕ} {given at : ℕ} where
  entry_did :
      {left modulus image : ℕ} {s : Step}
      → Judged moduli given at (Entries left modulus) (Entry image) s
      → is_refused s ≡ false
      → s ≡ Goes (after_entry left modulus)
  entry_did Judged.refused h = absurd (true≢false h)
  entry_did (Judged.entry below) h = refl

  project_did :
      {due : Due} {modulus a : ℕ} {s : Step}
      → Judged moduli given at due (Project modulus a) s
      → is_refused s ≡ false
      → (s ≡ Makes (wire_of (Gate.Project (record { a = a; table = at + 1 })) modulus) (Entries (get_or moduli a 0) modulus))
      × (gate_due due ≡ true) × (a < length moduli)
  project_did Judged.refused h = absurd (true≢false h)
  project_did (Judged.project room short lower) h = (refl, room.due, lower)

-- entries that were laid down: as many as were due, and the file has their images
record Passed (all : List ℕ) (f e : Draft) (images : List ℕ) (left : ℕ) (wires : List Wire) (outputs : List ℕ) : Type 0 where
  in_step : InStep all e wires outputs
  count : length images ≡ left
  stand : (v : ℕ) → v < length images → image (word_at (file_of all) (length f.words + v)) ≡ get_or images v 0
  tables : f.tables ≡ e.tables

fits-entry : {v : ℕ} → Fits (Entry v) → v < 256
fits-entry (Fits.entry h) = h

-- .. and the others
stand-next :
    (all : List ℕ) (f : Draft) {g : Draft} (v : ℕ) (images : List ℕ)
    → laid f (Entry v) ≡ drafted g
    → image (word_at (file_of all) (length f.words)) ≡ v
    → ((i : ℕ) → i < length images → image (word_at (file_of all) (length g.words + i)) ≡ get_or images i 0)
    → (i : ℕ)
    → i < length (v ∷ images)
    → image (word_at (file_of all) (length f.words + i)) ≡ get_or (v ∷ images) i 0
stand-next all f v images h e others zero l = ap (λ (k : ℕ). image (word_at (file_of all) k)) (add-zero (length f.words)) ∙ e
stand-next all f {g} v images h e others (suc i) l =
    let place : length f.words + suc i ≡ length g.words + i =
    omega (arith, ap (length {A = ℕ}) (words-after f (Entry v) _ h), length_more f.words (word_of (Entry v))) in
    ap (λ (k : ℕ). image (word_at (file_of all) k)) place ∙ others i (omega arith)

module _ (all : List ℕ) (modulus : ℕ) {wires : List Wire} {outputs : List ℕ} where
  -- the first of them
  image_here :
      {f g : Draft} (v : ℕ)
      → InStep all f wires outputs
      → laid f (Entry v) ≡ drafted g
      → Begins g.words all
      → image (word_at (file_of all) (length f.words)) ≡ v
  image_here {f} v p h b =
      ap image (word-at all (length f.words) ∙ begins_word f.words (word_of (Entry v)) (begins_trans (laid_begins f (Entry v) h) b))
      ∙ entry-image v (fits-entry (laid-fits p (Entry v) refl h))

  passed :
      (images : List ℕ) (left : ℕ) (f : Draft) {e : Draft}
      → InStep all f wires outputs
      → f.due ≡ due_for left modulus
      → length images ≤ left
      → laid_all f (map Entry images) ≡ drafted e
      → whole e e.due ≡ drafted e
      → Begins e.words all
      → Passed all f e images left wires outputs
  unfolding laid_all whole
  passed [] zero f {e} p due l h w b =
      subst (λ (k : Draft). Passed all f k [] 0 wires outputs) (same_draft h)
      (record { in_step = p; count = refl; stand = λ v k. absurd (not-suc-le-zero k); tables = refl })
  passed [] (suc left) f {e} p due l h w b = not_stopped (ap (whole e) (sym due ∙ ap (λ (k : Draft). k.due) (same_draft h)) ∙ w)
  passed (v ∷ images) zero f p due l h w b = absurd (not-suc-le-zero l)
  passed (v ∷ images) (suc left) f {e} p due l h w b =
      let t : Then (laid f (Entry v)) (λ (k : Draft). laid_all k (map Entry images)) e = first_then f (Entry v) (map Entry images) h in
      let c : Begins t.middle.words all = begins_trans (all_begins (map Entry images) t.middle t.second) b in
      let s : Step = judged f.moduli f.given (length f.words) f.due (Entry v) in
      let j : Judged f.moduli f.given (length f.words) (Entries (suc left) modulus) (Entry v) s =
      subst (λ (k : Due). Judged f.moduli f.given (length f.words) k (Entry v) s) due
      (judging f.moduli f.given (length f.words) f.due (Entry v)) in
      let one = goes_on (Entry v) p refl t.first c (entry_did j (not-refused f (Entry v) s t.first)) in
      let r : Passed all t.middle e images left wires outputs =
      passed images left t.middle one.0 (sym one.1 ∙ after_one left modulus) (omega arith) t.second w b in
      record {
        in_step = r.in_step;
        count = ap suc r.count;
        stand = stand-next all f v images t.first (image_here v p t.first c) r.stand;
        tables = tables_after f (Entry v) _ t.first ∙ r.tables;
      }

-- the wire that it makes
abbrev projected : Draft → ℕ → ℕ → Wire
projected d modulus a = wire_of (Gate.Project (record { a = a; table = length d.words + 1 })) modulus

-- the whole projection
module _ {all : List ℕ} {d e : Draft} {done : List Record} {tables : List ℕ} (c : Carried all d done tables) (b : Begins e.words all) (modulus a : ℕ) where
  -- its table is the entries
  table_is :
      {f : Draft}
      → a < length d.moduli
      → length f.words ≡ suc (length d.words)
      → Passed all f e (take (get_or d.moduli a 0) d.tables) (get_or d.moduli a 0) (c.wires ++ (projected d modulus a ∷ [])) c.outputs
      → table_of (file_of all) (c.wires ++ (projected d modulus a ∷ [])) (projected d modulus a).gate ≡ take (get_or d.moduli a 0) d.tables
  table_is {f} l n r =
      let m : modulus_at (c.wires ++ (projected d modulus a ∷ [])) a ≡ get_or d.moduli a 0 =
      modulus-kept c.wires (projected d modulus a ∷ []) a (omega (arith, l, made c.wires, ap (length {A = ℕ}) c.in_step.moduli))
      ∙ sym (modulus-of c.wires a)
      ∙ ap (λ (ms : List ℕ). get_or ms a 0) c.in_step.moduli in
      sym
      (is-tab (modulus_at (c.wires ++ (projected d modulus a ∷ [])) a) (λ (v : ℕ). image (word_at (file_of all) (length d.words + 1 + v))) (take (get_or d.moduli a 0) d.tables) 0
      (r.count ∙ sym m)
      (λ v h.
      let place : length d.words + 1 + v ≡ length f.words + v = omega (arith, n) in
      sym (ap (λ (k : ℕ). image (word_at (file_of all) k)) place ∙ r.stand v (omega (arith, h, m, r.count)))))

  pub project_taken :
      laid_all (leaving d (drop (get_or d.moduli a 0) d.tables)) (Project modulus a ∷ map Entry (take (get_or d.moduli a 0) d.tables)) ≡ drafted e
      → whole e e.due ≡ drafted e
      → Carried all e (done ++ (gate_record (Gate.Project (record { a = a; table = 0 })) modulus ∷ [])) tables
  project_taken h w =
      let p : ℕ = get_or d.moduli a 0 in
      let images : List ℕ = take p d.tables in
      let from : Draft = leaving d (drop p d.tables) in
      let t : Then (laid from (Project modulus a)) (λ (k : Draft). laid_all k (map Entry images)) e = first_then from (Project modulus a) (map Entry images) h in
      let f : Draft = t.middle in
      let did = project_did (judging d.moduli d.given (length d.words) d.due (Project modulus a)) (not-refused from (Project modulus a) _ t.first) in
      let one = makes_one (Project modulus a) (leaves c.in_step) refl t.first (begins_trans (all_begins (map Entry images) f t.second) b) did.0 in
      let some : 0 < p =
      some_left (subst (λ (due : Due). State (file_of all) (length f.words) due (c.wires ++ (projected d modulus a ∷ [])) c.outputs) (sym one.1) one.0.state) in
      let r : Passed all f e images p (c.wires ++ (projected d modulus a ∷ [])) c.outputs =
      passed all modulus images p f one.0 (sym one.1 ∙ due_some p modulus some) (omega (arith, length-take p d.tables)) t.second w b in
      let n : length f.words ≡ suc (length d.words) =
      omega (arith, ap (length {A = ℕ}) (words-after from (Project modulus a) _ t.first), length_more d.words (word_of (Project modulus a))) in
      record {
        wires = c.wires ++ (projected d modulus a ∷ []);
        outputs = c.outputs;
        in_step = r.in_step;
        records_are =
            one-wire c.wires _ _ _ (none_yet c.in_step.early did.1)
            ∙ ap (λ (rs : List Record). rs ++ (gate_record (Gate.Project (record { a = a; table = 0 })) modulus ∷ [])) c.records_are;
        tables_are =
            ap₂ (◌++◌ {A = ℕ})
            (one_table (file_of all) c.wires (projected d modulus a) (at-gates c.in_step.state did.1) ∙ ap (λ (ts : List ℕ). tables_of (file_of all) c.wires ++ ts) (table_is did.2 n r))
            (sym (tables_after from (Project modulus a) _ t.first ∙ r.tables))
            ∙ append_assoc (tables_of (file_of all) c.wires) images (drop p d.tables)
            ∙ ap (λ (ts : List ℕ). tables_of (file_of all) c.wires ++ ts) (take-append-drop p d.tables)
            ∙ c.tables_are;
      }
