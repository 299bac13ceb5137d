-- What the writer still writes, from the draft at an index, of the wires and outputs to come: one law for each thing that an item does there, from what is
-- written behind it.
-- Assumes nothing.
use mathlib.Core.Path.{◌≡◌, refl, sym, ap, ap₂, ◌∙◌}
use mathlib.Core.Bool.{true}
use mathlib.Core.List.{List, [], ◌∷◌, ◌++◌, map, zip_with}
use Prim.Native.Nat.{ℕ, suc, ◌+◌, ◌-◌, ◌<◌}
use native.Mathlib.Numerals.{add-one}
use native.Mathlib.Omega.{arith}
use lib.ListN.{length, get_or}
use lib.Seq.{take_at, drop_at}
use borrow.Author.Tests.{lt-ltb}
use Rattle.lists.specs.Blocks.{tab}
use Rattle.lists.proofs.Blocks.{tab_ext}
use Rattle.words.specs.Bits.{word_at, named, image}
use Rattle.words.specs.Items.{judged, output_due, wire_of}
use Rattle.words.specs.Encode.{word_of}
use Rattle.words.specs.declared.gate.Gate.TheVariants.{Project, Select}
use Rattle.words.specs.declared.gate.Wire.{Wire}
use Rattle.words.specs.declared.gate.Due.{Due}
use Rattle.words.specs.declared.gate.Due.TheVariants.{Gates, Outputs, Entries, Branches}
use Rattle.words.specs.declared.gate.Step.{Step}
use Rattle.words.specs.declared.gate.Step.TheVariants.{Makes, Goes, Gives, Ends}
use Rattle.words.specs.declared.item.Item.{Item}
use Rattle.circuit.specs.Wires.{moduli_of, modulus_at}
use Rattle.circuit.specs.File.{words_in, named_before}
use Rattle.writer.specs.declared.entry.Record.{Record}
use Rattle.writer.specs.Says.{items, spoken, speech_of}
use Rattle.writer.specs.Written.{Draft, Drafted, drafted, Written, wrote, recorded, all_taken, closed, onward, write_from}
use Rattle.writer.specs.Listed.{wire_record, output_record, records_of, table_of}
use Rattle.editor.proofs.Encoded.{names_of, names-byte}
use Rattle.editor.proofs.Decoded.{Spells}
use Rattle.editor.proofs.BackwardsTables.{blocks-front, onwards, onwards_length, tab_onwards, images, tables_ahead}
use Rattle.editor.proofs.BackwardsItems.{Single}
use Rattle.editor.proofs.BackwardsLaid.{draft_at, laid_whole, laid_makes, laid_goes, laid_gives, laid-ends, recorded_as, laid-first, laid_last}

-- the list of the wires and outputs to come: the outputs' words stand directly before the file's last one
abbrev pub records_ahead : List ℕ → List Wire → List ℕ → List Record
records_ahead file more others = records_of more others (named_before file (words_in file - 1) (length others))

-- Where the reader stands at an index with these wires and outputs so far, and all the wires are known.
module _ (file : List ℕ) (all : List Wire) (at : ℕ) where
  -- at a record
  abbrev pub Wrote : Due → List Wire → List ℕ → List Wire → List ℕ → Type 0
  Wrote due wires outputs more others =
      (place : ℕ)
      → write_from place (records_ahead file more others) (draft_at file at due wires outputs (tables_ahead file all more)) ≡ wrote (tab (words_in file) (word_at file))

  -- inside a record, of which items are left
  abbrev pub WroteOn : Due → List Wire → List ℕ → List Item → List Wire → List ℕ → Type 0
  WroteOn due wires outputs says more others =
      (place : ℕ)
      → onward (write_from (suc place) (records_ahead file more others)) place (laid_whole (draft_at file at due wires outputs (tables_ahead file all more)) says)
      ≡ wrote (tab (words_in file) (word_at file))

-- a record, by what is laid down for it
write_on :
    (place : ℕ) (r : Record) (records : List Record) (d : Draft) (now : Drafted) (result : Written)
    → recorded d r ≡ now
    → onward (write_from (suc place) records) place now ≡ result
    → write_from place (r ∷ records) d ≡ result
unfolding write_from
write_on place r records d now result e f = ap (onward (write_from (suc place) records) place) e ∙ f

-- what is laid down, where that is done
laid_on :
    (place : ℕ) (records : List Record) (now later : Drafted) (result : Written)
    → now ≡ later
    → onward (write_from (suc place) records) place later ≡ result
    → onward (write_from (suc place) records) place now ≡ result
laid_on place records now later result e f = ap (onward (write_from (suc place) records) place) e ∙ f

went :
    (place : ℕ) (records : List Record) (e : Draft) (result : Written)
    → write_from (suc place) records e ≡ result
    → onward (write_from (suc place) records) place (drafted e) ≡ result
unfolding onward
went place records e result f = f

-- the tables of a wire that has none, and of a projection at an index
module _ (file : List ℕ) (all : List Wire) (more : List Wire) where
  no_table : (wire : Wire) → table_of file all wire.gate ≡ [] → tables_ahead file all (wire ∷ more) ≡ tables_ahead file all more
  unfolding tables_ahead
  no_table wire e = ap (λ (l : List ℕ). l ++ tables_ahead file all more) e

  a-table :
      (a at p q : ℕ)
      → modulus_at all a ≡ p
      → tables_ahead file all (wire_of (Project (record { a = a; table = at + 1 })) q ∷ more) ≡ images file (suc at) p ++ tables_ahead file all more
  unfolding tables_ahead
  a-table a at p q e =
      ap (λ (l : List ℕ). l ++ tables_ahead file all more)
      (ap (λ (n : ℕ). tab n (λ v. image (word_at file (at + 1 + v)))) e
      ∙ ap (λ (k : ℕ). tab p (λ v. image (word_at file (k + v)))) (add-one at)
      ∙ tab_onwards (λ i. image (word_at file i)) (suc at) p)

-- a projection's record says its word and the first entries
project_says :
    (moduli : List ℕ) (a table q : ℕ) (its later : List ℕ)
    → length its ≡ get_or moduli a 0
    → speech_of moduli (its ++ later) (wire_record (wire_of (Project (record { a = a; table = table })) q)) ≡ items (Item.Project q a ∷ map Item.Entry its) later
unfolding spoken
project_says moduli a table q its later e = rw (take_at its later (get_or moduli a 0) e, drop_at its later (get_or moduli a 0) e)

select-says :
    (moduli tables : List ℕ) (bit a b modulus : ℕ)
    → speech_of moduli tables (wire_record (wire_of (Select (record { bit = bit; a = a; b = b })) modulus)) ≡ items (Item.Select bit ∷ Item.Branches a b ∷ []) tables
unfolding spoken
select-says moduli tables bit a b modulus = refl

output_says : (moduli tables : List ℕ) (a n : ℕ) → n < 256 → speech_of moduli tables (output_record a n) ≡ items (Item.Output n a ∷ []) tables
unfolding spoken
output_says moduli tables a n h = rw (lt-ltb n 256 h)

-- the output whose word stands at an index, before so many others and the file's last word, is the first of those to come
module _ (file : List ℕ) (at count : ℕ) (place : at + suc count ≡ words_in file - 1) where
  first-here : words_in file - 1 - suc count + 0 ≡ at
  first-here = omega (arith, place)

  behind : (i : ℕ) → words_in file - 1 - suc count + suc i ≡ words_in file - 1 - count + i
  behind i = omega (arith, place)

  first_name : {n : ℕ} → named (word_at file at) ≡ n → named_before file (words_in file - 1) (suc count) ≡ n ∷ named_before file (words_in file - 1) count
  first_name {n} e =
      blocks-front count (λ (i : ℕ). named (word_at file (words_in file - 1 - suc count + i)) ∷ [])
      ∙ ap₂ (λ (m : ℕ) (l : List ℕ). m ∷ l) (ap (λ (k : ℕ). named (word_at file k)) first-here ∙ e)
      (tab_ext count (λ (i : ℕ). named (word_at file (words_in file - 1 - suc count + suc i))) (λ (i : ℕ). named (word_at file (words_in file - 1 - count + i)))
      (λ i _. ap (λ (k : ℕ). named (word_at file k)) (behind i)))

first_record :
    (file : List ℕ) (at a : ℕ) (others : List ℕ) {n : ℕ}
    → at + length (a ∷ others) ≡ words_in file - 1
    → named (word_at file at) ≡ n
    → records_ahead file [] (a ∷ others) ≡ output_record a n ∷ records_ahead file [] others
unfolding zip_with
first_record file at a others place e = ap (zip_with output_record (a ∷ others)) (first_name file at (length others) place e)

-- an item whose word stands at the index
module _ (file : List ℕ) (all : List Wire) (at : ℕ) (due : Due) (wires : List Wire) (outputs : List ℕ) where
  -- what the item does there
  abbrev Here : Item → Step → Type 0
  Here x s = judged (moduli_of wires) (length outputs) at due x ≡ s

  -- a wire of one word
  pub wrote_one :
      (x : Item) (wire : Wire) (next : Due) (more : List Wire) (others : List ℕ)
      → word_at file at ≡ word_of x
      → Here x (Makes wire next)
      → Single wire x
      → output_due next ≡ true
      → Wrote file all (suc at) next (wires ++ (wire ∷ [])) outputs more others
      → Wrote file all at due wires outputs (wire ∷ more) others
  wrote_one x wire next more others stands here one done f place =
      rw (no_table file all more wire (one.plain file all))
      (write_on place (wire_record wire) (records_ahead file more others) _ _ _
      (recorded_as _ (wire_record wire) (x ∷ []) tables (one.says (moduli_of wires) tables)
      ∙ laid_last _ _ x (laid_makes file at due wires outputs tables x stands wire next here) done)
      (went place _ _ _ (f (suc place))))
    where
      tables : List ℕ
      tables = tables_ahead file all more

  -- a projection, and its entries
  pub wrote_table :
      (a q : ℕ) (more : List Wire) (others : List ℕ)
      → word_at file at ≡ word_of (Item.Project q a)
      → Here (Item.Project q a) (Makes (wire_of (Project (record { a = a; table = at + 1 })) q) (Entries (get_or (moduli_of wires) a 0) q))
      → modulus_at all a ≡ get_or (moduli_of wires) a 0
      → WroteOn file all (suc at) (Entries (get_or (moduli_of wires) a 0) q) (wires ++ (wire_of (Project (record { a = a; table = at + 1 })) q ∷ [])) outputs
      (map Item.Entry (images file (suc at) (get_or (moduli_of wires) a 0))) more others
      → Wrote file all at due wires outputs (wire_of (Project (record { a = a; table = at + 1 })) q ∷ more) others
  wrote_table a q more others stands here e f place =
      rw (a-table file all more a at p q e)
      (write_on place (wire_record wire) (records_ahead file more others) _ _ _
      (recorded_as (draft_at file at due wires outputs (its ++ tables)) (wire_record wire) (Item.Project q a ∷ map Item.Entry its) tables
      (project_says (moduli_of wires) a (at + 1) q its tables (onwards_length (λ i. image (word_at file i)) (suc at) p))
      ∙ laid-first _ _ (Item.Project q a) (map Item.Entry its) (laid_makes file at due wires outputs tables (Item.Project q a) stands wire (Entries p q) here))
      (f place))
    where
      p : ℕ
      p = get_or (moduli_of wires) a 0

      wire : Wire
      wire = wire_of (Project (record { a = a; table = at + 1 })) q

      its : List ℕ
      its = images file (suc at) p

      tables : List ℕ
      tables = tables_ahead file all more

  -- an entry of several, and the last
  pub wrote_entry :
      (i n : ℕ) (next : Due) (more : List Wire) (others : List ℕ)
      → word_at file at ≡ word_of (Item.Entry i)
      → image (word_at file at) ≡ i
      → Here (Item.Entry i) (Goes next)
      → WroteOn file all (suc at) next wires outputs (map Item.Entry (images file (suc at) n)) more others
      → WroteOn file all at due wires outputs (map Item.Entry (images file at (suc n))) more others
  unfolding onwards
  wrote_entry i n next more others stands e here f place =
      rw e
      (laid_on place (records_ahead file more others) _ _ _
      (laid-first _ _ (Item.Entry i) (map Item.Entry (images file (suc at) n))
      (laid_goes file at due wires outputs (tables_ahead file all more) (Item.Entry i) stands next here))
      (f place))

  pub wrote_last :
      (i : ℕ) (next : Due) (more : List Wire) (others : List ℕ)
      → word_at file at ≡ word_of (Item.Entry i)
      → image (word_at file at) ≡ i
      → Here (Item.Entry i) (Goes next)
      → output_due next ≡ true
      → Wrote file all (suc at) next wires outputs more others
      → WroteOn file all at due wires outputs (map Item.Entry (images file at 1)) more others
  unfolding onwards
  wrote_last i next more others stands e here done f place =
      rw e
      (laid_on place (records_ahead file more others) _ _ _
      (laid_last _ _ (Item.Entry i) (laid_goes file at due wires outputs (tables_ahead file all more) (Item.Entry i) stands next here) done)
      (went place _ _ _ (f (suc place))))

  -- a selection, and its branches
  pub wrote_select :
      (bit a b modulus : ℕ) (more : List Wire) (others : List ℕ)
      → word_at file at ≡ word_of (Item.Select bit)
      → Here (Item.Select bit) (Goes (Branches bit))
      → WroteOn file all (suc at) (Branches bit) wires outputs (Item.Branches a b ∷ []) more others
      → Wrote file all at due wires outputs (wire_of (Select (record { bit = bit; a = a; b = b })) modulus ∷ more) others
  wrote_select bit a b modulus more others stands here f place =
      rw (no_table file all more wire refl)
      (write_on place (wire_record wire) (records_ahead file more others) _ _ _
      (recorded_as (draft_at file at due wires outputs tables) (wire_record wire) (Item.Select bit ∷ Item.Branches a b ∷ []) tables
      (select-says (moduli_of wires) tables bit a b modulus)
      ∙ laid-first _ _ (Item.Select bit) (Item.Branches a b ∷ []) (laid_goes file at due wires outputs tables (Item.Select bit) stands (Branches bit) here))
      (f place))
    where
      wire : Wire
      wire = wire_of (Select (record { bit = bit; a = a; b = b })) modulus

      tables : List ℕ
      tables = tables_ahead file all more

  pub wrote_branches :
      (x : Item) (wire : Wire) (more : List Wire) (others : List ℕ)
      → word_at file at ≡ word_of x
      → Here x (Makes wire Gates)
      → Wrote file all (suc at) Gates (wires ++ (wire ∷ [])) outputs more others
      → WroteOn file all at due wires outputs (x ∷ []) more others
  wrote_branches x wire more others stands here f place =
      laid_on place (records_ahead file more others) _ _ _
      (laid_last _ _ x (laid_makes file at due wires outputs (tables_ahead file all more) x stands wire Gates here) refl)
      (went place _ _ _ (f (suc place)))

  -- an output
  pub wrote_output :
      (n a : ℕ) (others : List ℕ)
      → Spells (word_at file at) (Item.Output n a)
      → Here (Item.Output n a) (Gives a)
      → at + length (a ∷ others) ≡ words_in file - 1
      → Wrote file all (suc at) Outputs wires (outputs ++ (a ∷ [])) [] others
      → Wrote file all at due wires outputs [] (a ∷ others)
  wrote_output n a others s here there f place =
      ap (λ (rs : List Record). write_from place rs (draft_at file at due wires outputs tables))
      (first_record file at a others there (ap named s.word ∙ names_of n a s.fits))
      ∙ write_on place (output_record a n) (records_ahead file [] others) _ _ _
      (recorded_as (draft_at file at due wires outputs tables) (output_record a n) (Item.Output n a ∷ []) tables
      (output_says (moduli_of wires) tables a n (names-byte s.fits))
      ∙ laid_last _ _ (Item.Output n a) (laid_gives file at due wires outputs tables (Item.Output n a) s.word a here) refl)
      (went place _ _ _ (f (suc place)))
    where
      tables : List ℕ
      tables = tables_ahead file all []

  -- the end, in the last word
  pub wrote_end :
      word_at file at ≡ word_of Item.End
      → Here Item.End Ends
      → words_in file ≡ suc at
      → Wrote file all at due wires outputs [] []
  unfolding zip_with write_from closed all_taken tables_ahead
  wrote_end stands here e place =
      ap (closed place) (laid-ends file at due wires outputs [] Item.End stands here) ∙ ap (λ (n : ℕ). wrote (tab n (word_at file))) (sym e)
