-- The reader in step with the writer over items, a record and the first records: whatever a draft was made from, a file that begins with its words is
-- read to where the writer stands.
-- Assumes nothing.
use mathlib.Core.Path.{◌≡◌, ap, subst, ◌∙◌}
use mathlib.Core.List.{List, [], ◌∷◌, ◌++◌}
use Prim.Native.Nat.{ℕ}
use Rattle.words.specs.declared.gate.Wire.{Wire}
use Rattle.words.specs.declared.item.Item.{Item}
use Rattle.writer.specs.declared.entry.Record.{Record}
use Rattle.writer.specs.Says.{Speech, items, speech_of}
use Rattle.writer.specs.Written.{Draft, Drafted, drafted, blank, leaving, laid, unless_stopped, laid_all, recorded}
use Rattle.editor.specs.Promise.{drafted_to}
use Rattle.editor.proofs.ForwardsDrafts.{Begins, begins_same, begins_trans, same_draft, Then, and_then, first_then, all_begins, record_begins, Laid, laid_record}
use Rattle.editor.proofs.ForwardsStep.{InStep, leaves, step, begun}
use Rattle.editor.proofs.ForwardsRecords.{Spoken, speaking, AllSayable, all_sayable}

pub record Follows (all : List ℕ) (d : Draft) : Type 0 where
  pub wires : List Wire
  pub outputs : List ℕ
  pub in_step : InStep all d wires outputs

pub follows_leaving : {all : List ℕ} {d : Draft} (left : List ℕ) → Follows all d → Follows all (leaving d left)
follows_leaving left p = record { wires = p.wires; outputs = p.outputs; in_step = leaves p.in_step }

pub follows_items :
    {all : List ℕ} (xs : List Item) (d : Draft) {e : Draft} → AllSayable xs → Follows all d → laid_all d xs ≡ drafted e → Begins e.words all → Follows all e
unfolding laid_all
follows_items {all} [] d on p h b = subst (Follows all) (same_draft h) p
follows_items (x ∷ xs) d {e} (AllSayable.more n on) p h b =
    let t : Then (laid d x) (λ (f : Draft). laid_all f xs) e = first_then d x xs h in
    follows_items xs t.middle on
    (record { wires = _; outputs = _; in_step = step p.in_step x n t.first (begins_trans (all_begins xs t.middle t.second) b) })
    t.second b

-- the items that a record says
pub says_sayable : (d : Draft) (r : Record) {says : List Item} {left : List ℕ} → speech_of d.moduli d.tables r ≡ items says left → AllSayable says
says_sayable d r e = all_sayable (subst (λ (s : Speech). Spoken d.moduli d.tables r s) e (speaking d.moduli d.tables r))

follows_record : {all : List ℕ} (d : Draft) {e : Draft} (r : Record) → Follows all d → recorded d r ≡ drafted e → Begins e.words all → Follows all e
follows_record d {e} r p h b =
    let l : Laid d (speech_of d.moduli d.tables r) e = laid_record d _ h in
    follows_items l.says (leaving d l.left) (says_sayable d r l.said) (follows_leaving l.left p) l.all b

-- the first records
next_drafted : (d : Draft) (r : Record) (records : List Record) {e : Draft} → drafted_to (r ∷ records) d ≡ drafted e → Then (recorded d r) (drafted_to records) e
unfolding drafted_to
next_drafted d r records h = and_then _ _ h

drafted_begins : (records : List Record) (d : Draft) {e : Draft} → drafted_to records d ≡ drafted e → Begins d.words e.words
unfolding drafted_to
drafted_begins [] d h = subst (λ (f : Draft). Begins d.words f.words) (same_draft h) (begins_same d.words)
drafted_begins (r ∷ records) d {e} h =
    let t : Then (recorded d r) (drafted_to records) e = next_drafted d r records h in
    begins_trans (record_begins d _ t.first) (drafted_begins records t.middle t.second)

follows_records : {all : List ℕ} (records : List Record) (d : Draft) {e : Draft} → Follows all d → drafted_to records d ≡ drafted e → Begins e.words all → Follows all e
unfolding drafted_to
follows_records {all} [] d p h b = subst (Follows all) (same_draft h) p
follows_records (r ∷ records) d {e} p h b =
    let t : Then (recorded d r) (drafted_to records) e = next_drafted d r records h in
    follows_records records t.middle
    (follows_record d r p t.first (begins_trans (drafted_begins records t.middle t.second) b))
    t.second b

-- .. from the head on
pub follows_all : {all : List ℕ} (records : List Record) (tables : List ℕ) {e : Draft} → drafted_to records (blank tables) ≡ drafted e → Begins e.words all → Follows all e
follows_all {all} records tables h b =
    follows_records records (blank tables)
    (record { wires = []; outputs = []; in_step = begun all tables (begins_trans (drafted_begins records (blank tables) h) b) })
    h b

-- one record more
pub drafted_more :
    (records : List Record) (d : Draft) (r : Record) {e f : Draft}
    → drafted_to records d ≡ drafted e
    → recorded e r ≡ drafted f
    → drafted_to (records ++ (r ∷ [])) d ≡ drafted f
unfolding drafted_to unless_stopped
drafted_more [] d r h g =
    ap (λ (k : Draft). unless_stopped (recorded k r) (drafted_to [])) (same_draft h) ∙ ap (λ (m : Drafted). unless_stopped m (drafted_to [])) g
drafted_more (q ∷ records) d r {e} {f} h g =
    let t : Then (recorded d q) (drafted_to records) e = next_drafted d q records h in
    ap (λ (m : Drafted). unless_stopped m (drafted_to (records ++ (r ∷ [])))) t.first ∙ drafted_more records t.middle r t.second g
