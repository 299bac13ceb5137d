-- A table on the desk and in the draft: entries one by one in the draft, all at once on the desk.
-- Assumes nothing.
use mathlib.Core.Path.{◌≡◌, refl, sym, ap, subst, ◌∙◌}
use mathlib.Core.Bool.{Bool, true, false, true≢false, cond, ◌&&◌}
use mathlib.Core.List.{List, [], ◌∷◌, ◌++◌, map, append_assoc, append-nil}
use Prim.Native.Nat.{ℕ, zero, suc, ◌+◌, ◌≤◌, ◌<◌}
use native.Mathlib.Omega.{arith}
use lib.Dec.{ltb}
use lib.ListN.{length, length-append, length-map}
use Rattle.residue.proofs.Table.{and_left, and_right}
use Rattle.checks.specs.declared.Refusal.{Refusal}
use Rattle.checks.specs.declared.Refusal.TheVariants.{OutOfRange, WrongLength}
use Rattle.words.specs.declared.gate.Due.{Due}
use Rattle.words.specs.declared.gate.Due.TheVariants.{Gates, Entries}
use Rattle.words.specs.declared.item.Item.TheVariants.{Entry}
use Rattle.words.specs.Items.{check, after_entry}
use Rattle.words.specs.Encode.{word_of}
use Rattle.writer.specs.Written.{Draft, Drafted, stopped, drafted, after_item, laid, unless_stopped, laid_all, whole}
use Rattle.writer.specs.Desk.{Desk, desk, stop, put_word, put_words, all_below, entry_words, table_on}
use Rattle.writer.specs.Walked.{Holds}
use Rattle.writer.proofs.HoldingFiles.{Kept, kept_more}
use Rattle.writer.proofs.HoldingFacts.{no_choice, not-gates}
use Rattle.writer.proofs.Holding.{file-kept}

-- several words more
pub kept_many : (lay : Bool) {before file ws : List ℕ} (es : List ℕ) {at : ℕ} → Kept lay before file ws → at ≡ length ws
    → Kept lay before (cond lay (put_words file at es) file) (ws ++ es)
unfolding put_words
kept_many true {before} {file} {ws} [] k e = subst (Kept true before file) (sym (append-nil ws)) k
kept_many true {before} {file} {ws} (w ∷ es) {at} k e =
    subst (Kept true before _) (append_assoc ws (w ∷ []) es)
    (kept_many true {file = put_word file at w} es (kept_more true w k e) (ap suc e ∙ next))
  where
    next : suc (length ws) ≡ length (ws ++ (w ∷ []))
    next = omega (arith, length-append ws (w ∷ []))
kept_many false es k e = record { size = k.size; kept = k.kept; laid = λ f room. absurd (true≢false (sym f)) }

-- a draft by what is due and its words
module _ (m : List ℕ) (g q : ℕ) (t : List ℕ) where
  abbrev at-due : Due → List ℕ → Draft
  at-due due ws = record { moduli = m; given = g; due = due; tables = t; words = ws }

  entry_good : (left i : ℕ) (ws : List ℕ) → ltb i q ≡ true → laid (at-due (Entries left q) ws) (Entry i) ≡ drafted (at-due (after_entry left q) (ws ++ (word_of (Entry i) ∷ [])))
  unfolding after_item check
  entry_good left i ws e = rw e refl

  entry_bad : (left i : ℕ) (ws : List ℕ) → ltb i q ≡ false → laid (at-due (Entries left q) ws) (Entry i) ≡ stopped OutOfRange
  unfolding after_item check
  entry_bad left i ws e = rw e refl

  -- what entries after a good one come to
  onward : (left i : ℕ) (ws : List ℕ) (others : List ℕ) → ltb i q ≡ true
      → laid_all (at-due (Entries left q) ws) (map Entry (i ∷ others)) ≡ laid_all (at-due (after_entry left q) (ws ++ (word_of (Entry i) ∷ []))) (map Entry others)
  unfolding laid_all unless_stopped
  onward left i ws others e = ap (λ (x : Drafted). unless_stopped x (λ d. laid_all d (map Entry others))) (entry_good left i ws e)

  -- all that are due, and all below the modulus
  full : (images : List ℕ) (n : ℕ) (ws : List ℕ) → length images ≡ suc n → all_below q images ≡ true
      → laid_all (at-due (Entries (suc n) q) ws) (map Entry images) ≡ drafted (at-due Gates (ws ++ entry_words images))
  unfolding laid_all all_below after_entry
  full [] n ws e b = absurd (omega (arith, e))
  full (i ∷ []) zero ws e b = onward 1 i ws [] (and_left (ltb i q) true b)
  full (i ∷ []) (suc n) ws e b = absurd (omega (arith, e))
  full (i ∷ (j ∷ others)) zero ws e b = absurd (omega (arith, e))
  full (i ∷ (j ∷ others)) (suc n) ws e b =
      onward (suc (suc n)) i ws (j ∷ others) (and_left (ltb i q) _ b)
      ∙ full (j ∷ others) n (ws ++ (word_of (Entry i) ∷ [])) (omega (arith, e)) (and_right (ltb i q) _ b)
      ∙ ap (λ (l : List ℕ). drafted (at-due Gates l)) (append_assoc ws (word_of (Entry i) ∷ []) (entry_words (j ∷ others)))

  -- fewer than are due
  short : (images : List ℕ) (left : ℕ) (ws : List ℕ) → length images < left → all_below q images ≡ true
      → unless_stopped (laid_all (at-due (Entries left q) ws) (map Entry images)) (λ e. whole e e.due) ≡ stopped WrongLength
  unfolding laid_all all_below after_entry unless_stopped whole
  short [] left ws e b = refl
  short (i ∷ others) zero ws e b = absurd (omega (arith, e))
  short (i ∷ others) (suc zero) ws e b = absurd (omega (arith, e))
  short (i ∷ others) (suc (suc left)) ws e b =
      ap (λ (x : Drafted). unless_stopped x (λ d. whole d d.due)) (onward (suc (suc left)) i ws others (and_left (ltb i q) _ b))
      ∙ short others (suc left) (ws ++ (word_of (Entry i) ∷ [])) (omega (arith, e)) (and_right (ltb i q) _ b)

  -- one that is not below the modulus
  bad_here : (left i : ℕ) (ws others : List ℕ)
      → (all_below q others ≡ false → laid_all (at-due (after_entry left q) (ws ++ (word_of (Entry i) ∷ []))) (map Entry others) ≡ stopped OutOfRange)
      → (good : Bool) → ltb i q ≡ good → (good && all_below q others) ≡ false
      → laid_all (at-due (Entries left q) ws) (map Entry (i ∷ others)) ≡ stopped OutOfRange
  unfolding laid_all unless_stopped
  bad_here left i ws others later true e b = onward left i ws others e ∙ later b
  bad_here left i ws others later false e b = ap (λ (x : Drafted). unless_stopped x (λ d. laid_all d (map Entry others))) (entry_bad left i ws e)

  bad : (images : List ℕ) (left : ℕ) (ws : List ℕ) → length images ≤ left → all_below q images ≡ false
      → laid_all (at-due (Entries left q) ws) (map Entry images) ≡ stopped OutOfRange
  unfolding all_below after_entry
  bad [] left ws e b = absurd (true≢false b)
  bad (i ∷ []) left ws e b = bad_here left i ws [] (λ f. absurd (true≢false f)) (ltb i q) refl b
  bad (i ∷ (j ∷ others)) zero ws e b = absurd (omega (arith, e))
  bad (i ∷ (j ∷ others)) (suc zero) ws e b = absurd (omega (arith, e))
  bad (i ∷ (j ∷ others)) (suc (suc n)) ws e b =
      bad_here (suc (suc n)) i ws (j ∷ others) (λ f. bad (j ∷ others) (suc n) (ws ++ (word_of (Entry i) ∷ [])) (omega (arith, e)) f) (ltb i q) refl b

-- what a table leaves: the draft with its words, gates due, on a desk that has taken its entries; or the pen put down
pub data Tabled (lay : Bool) (before : List ℕ) (place n : ℕ) (k : Desk) (d : Draft) (k' : Desk) : Drafted → Type 0 where
  full_table :
      {e : Draft}
      → Holds lay before k' e
      → Gates ≡ e.due
      → d.moduli ≡ e.moduli
      → d.given ≡ e.given
      → d.tables ≡ e.tables
      → k'.pen.taken ≡ k.pen.taken + suc n
      → k'.pen.at ≡ k.pen.at + suc n
      → Tabled lay before place n k d k' (drafted e)
  put_down : {reason : Refusal} → k' ≡ desk (stop k.pen reason place) k.moduli k.file → Tabled lay before place n k d k' (stopped reason)

-- the desk that holds a draft in which a table is due holds what its entries make of it
module _ {lay : Bool} {before : List ℕ} {k : Desk} {d : Draft} (h : Holds lay before k d) (n q : ℕ) (due : d.due ≡ Entries (suc n) q) (place : ℕ)
    (images : List ℕ) where
  -- the draft, with what is due
  as_due : d ≡ at-due d.moduli d.given q d.tables (Entries (suc n) q) d.words
  as_due = ap (λ (x : Due). at-due d.moduli d.given q d.tables x d.words) due

  at_most : (enough : Bool) → (enough ≡ true → length images ≡ suc n) → (enough ≡ false → length images < suc n) → length images ≤ suc n
  at_most true y m = omega (arith, y refl)
  at_most false y m = omega (arith, m refl)

  abbrev pub table_outcome : Draft → Drafted
  table_outcome e = unless_stopped (laid_all e (map Entry images)) (λ f. whole f f.due)

  pub held-table : (good enough : Bool) → all_below q images ≡ good → (enough ≡ true → length images ≡ suc n) → (enough ≡ false → length images < suc n)
      → Tabled lay before place n k d (table_on lay place (suc n) images k good enough) (table_outcome d)
  unfolding table_on unless_stopped whole
  held-table false enough b yes-enough not_enough =
      subst (Tabled lay before place n k d _)
      (sym (ap table_outcome as_due ∙ ap (λ (x : Drafted). unless_stopped x (λ f. whole f f.due)) (bad d.moduli d.given q d.tables images (suc n) d.words (at_most enough yes-enough not_enough) b)))
      (put_down refl)
  held-table true false b yes-enough not_enough =
      subst (Tabled lay before place n k d _) (sym (ap table_outcome as_due ∙ short d.moduli d.given q d.tables images (suc n) d.words (not_enough refl) b)) (put_down refl)
  held-table true true b yes-enough not_enough =
      let file : Kept lay before (cond lay (put_words k.file k.pen.at (entry_words images)) k.file) (d.words ++ entry_words images) = kept_many lay (entry_words images) (file-kept h) h.at in
      let count : k.pen.at + suc n ≡ length (d.words ++ entry_words images) =
      omega (arith, h.at, length-append d.words (entry_words images), length-map images (λ (i : ℕ). word_of (Entry i)), yes-enough refl) in
      subst (Tabled lay before place n k d _)
      (sym (ap table_outcome as_due ∙ ap (λ (x : Drafted). unless_stopped x (λ f. whole f f.due)) (full d.moduli d.given q d.tables images n d.words (yes-enough refl) b)))
      (full_table
      (record {
        answer = refl;
        steady = record { room = h.steady.room; made = h.steady.made; given = h.steady.given; choosing = λ bit e. absurd (no_choice refl e) };
        sound = record { byte = h.sound.byte; positive = h.sound.positive; entries = λ left modulus e. absurd (not-gates e) };
        moduli = h.moduli;
        given = h.given;
        due = refl;
        at = count;
        size = file.size;
        kept = file.kept;
        laid = file.laid;
      }) refl refl refl refl refl refl)
