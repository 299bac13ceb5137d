-- Order 1: the list of an accepted file is written as the file's own words, and so as its bytes (`read_is_written`). Along the accepted reading, by induction on
-- the words that are left: what the reader still reads, the writer still writes, from the draft that stands at the same index.
-- Assumes nothing.
use mathlib.Core.Path.{◌≡◌, refl, sym, ap, ap₂, ◌∙◌, subst, subst₂}
use mathlib.Core.Bool.{Bool, true, false}
use mathlib.Core.List.{List, [], ◌∷◌}
use Prim.Native.Nat.{ℕ, zero, suc, ◌+◌, ◌-◌, ◌*◌, ◌≤◌, ◌<◌}
use native.Mathlib.Omega.{arith}
use lib.Dec.{ltb, leb}
use lib.ListN.{length}
use borrow.Author.Tests.{leb-true, ltb-true, eqb-true}
use Rattle.residue.proofs.Table.{and_left, and_right}
use Rattle.checks.proofs.Passed.{never}
use Rattle.lists.specs.Blocks.{blocks, tab}
use Rattle.words.specs.Bits.{word_at}
use Rattle.words.specs.Items.{output_due}
use Rattle.words.specs.Reading.{said_by, does, read_word, Said, Nothing, Says}
use Rattle.words.specs.declared.gate.Wire.{Wire}
use Rattle.words.specs.declared.gate.Due.{Due}
use Rattle.words.specs.declared.gate.Due.TheVariants.{Inputs, Entries}
use Rattle.words.specs.declared.gate.Step.{Step}
use Rattle.words.specs.declared.gate.Step.TheVariants.{Ends}
use Rattle.words.specs.declared.item.Item.{Item}
use Rattle.circuit.specs.Wires.{moduli_of}
use Rattle.circuit.specs.File.{Read, words_in, ended, after, read_from, has_head, headed, read_file}
use Rattle.circuit.proofs.Outputs.{NamedThere, named-there}
use Rattle.circuit.proofs.State.{State, Next, next, nothing, in_table}
use Rattle.writer.specs.Written.{blank, wrote, write_from, write_records}
use Rattle.writer.specs.Listed.{records_of, tables_of}
use Rattle.writer.specs.Call.{records_read, tables_read}
use Rattle.editor.specs.Promise.{Bytes, ReadIsWritten}
use Rattle.editor.proofs.Decoded.{decoded}
use Rattle.editor.proofs.Files.{word_below, whole_words}
use Rattle.editor.proofs.BackwardsTables.{tables_ahead, all_ahead}
use Rattle.editor.proofs.BackwardsItems.{Does, did_so}
use Rattle.editor.proofs.BackwardsLaid.{draft_at}
use Rattle.editor.proofs.BackwardsAhead.{Ahead, Here, gates_on, make_one, begin_table, take-entry, begin_choice, take-branches, give_one, end_here}
use Rattle.editor.proofs.BackwardsWrote.{records_ahead, Wrote}
use Rattle.checks.specs.Answer.{accepts}

-- in a table some entry is left
some_left : {file : List ℕ} {at left q : ℕ} {wires : List Wire} {outputs : List ℕ} → State file at (Entries left q) wires outputs → 0 < left
some_left (in_table s room table) = table.some

-- one word of an accepted reading, where the rest of the reading is as it should be
module _ (file : List ℕ) (read : Read) (good : read.answer ≡ accepts) (at : ℕ) (inside : at < words_in file) (wires : List Wire) (outputs : List ℕ)
    (then : Due → List Wire → List ℕ → Read)
    (rest :
    (due : Due) (wires : List Wire) (outputs : List ℕ) → State file (suc at) due wires outputs → then due wires outputs ≡ read
    → Ahead file read (suc at) due wires outputs) where
  finish :
      {due : Due} (b : Bool) (names : List ℕ)
      → leb (length file) (4 * suc at) ≡ b
      → output_due due ≡ true
      → Here file read at wires outputs due Item.End Ends
      → ended b at wires outputs names ≡ read
      → Ahead file read at due wires outputs
  unfolding ended
  finish true names e here h r = end_here file read at wires outputs here inside (leb-true (length file) (4 * suc at) e) h r
  finish false names e here h r = never (ap (λ (k : Read). k.answer) r ∙ good)

  step :
      {due : Due} {x : Item} {s : Step}
      → State file at due wires outputs
      → Here file read at wires outputs due x s
      → Does (moduli_of wires) at due x s
      → Next file at wires outputs s
      → after then file at wires outputs s ≡ read
      → Ahead file read at due wires outputs
  unfolding after
  step st h Does.refused n r = never (ap (λ (k : Read). k.answer) r ∙ good)
  step st h (Does.makes here there one) (Next.makes st') r = make_one file read at wires outputs here there one h (rest _ _ _ st' r)
  step st h (Does.projects here l) (Next.makes st') r = begin_table file read at wires outputs here l h (rest _ _ _ st' r)
  step st h (Does.enters {left}) (Next.goes st') r = take-entry file read at wires outputs left (some_left st) h (rest _ _ _ st' r)
  step st h (Does.selects here) (Next.goes st') r = begin_choice file read at wires outputs here h (rest _ _ _ st' r)
  step st h Does.chooses (Next.makes st') r = take-branches file read at wires outputs h (rest _ _ _ st' r)
  step st h (Does.gives here) (Next.gives st') r = give_one file read at wires outputs here h (rest _ _ _ st' r)
  step st h (Does.ends here) n r = finish (leb (length file) (4 * suc at)) _ refl here h r

  -- by what the word says
  say :
      (b : Bytes file) (due : Due)
      → State file at due wires outputs
      → (s : Said)
      → said_by (word_at file at) ≡ s
      → after then file at wires outputs (does (moduli_of wires) (length outputs) at due s) ≡ read
      → Ahead file read at due wires outputs
  unfolding after read_word
  say b due st Nothing e r = never (ap (λ (k : Read). k.answer) r ∙ good)
  say b due st (Says x) e r =
      step st
      (record { stands = decoded (word_at file at) (word_below file b at) x e; did = refl })
      (did_so (moduli_of wires) (length outputs) at due x)
      (subst (λ (s : Said). Next file at wires outputs (does (moduli_of wires) (length outputs) at due s)) e (next file at inside due wires outputs st))
      r

-- the words that are left
from :
    (file : List ℕ) (b : Bytes file) (read : Read) (good : read.answer ≡ accepts) (left at : ℕ) (due : Due) (wires : List Wire) (outputs : List ℕ)
    → at + left ≤ words_in file
    → State file at due wires outputs
    → read_from file left at due wires outputs ≡ read
    → Ahead file read at due wires outputs
unfolding read_from read_word
from file b read good zero at due wires outputs l st r = never (ap (λ (k : Read). k.answer) r ∙ good)
from file b read good (suc left) at due wires outputs l st r =
    say file read good at (omega arith) wires outputs (read_from file left (suc at))
    (λ due' wires' outputs' st' r'. from file b read good left (suc at) due' wires' outputs' (omega arith) st' r')
    b due st (said_by (word_at file at)) refl r

-- a file with a head
module _ (file : List ℕ) (h : has_head file ≡ true) where
  some_word : 0 < words_in file
  some_word = ltb-true 0 (words_in file) (and_left (ltb 0 (words_in file)) _ h)

  head_word : word_at file 0 ≡ 0x1000_0000
  head_word = eqb-true (word_at file 0) 0x1000_0000 (and_right (ltb 0 (words_in file)) _ h)

-- the whole file, from the word behind the head
begun :
    (file : List ℕ) (b : Bytes file) (h : Bool)
    → has_head file ≡ h
    → (headed h file).answer ≡ accepts
    → Ahead file (headed h file) 1 Inputs [] [] × (word_at file 0 ≡ 0x1000_0000)
unfolding headed
begun file b true h e =
    (from file b (headed true file) e (words_in file - 1) 1 Inputs [] [] (omega (arith, some_word file h)) (nothing file) refl, head_word file h)
begun file b false h e = never e

-- the writer begins where the reader does
module _ (file : List ℕ) (read : Read) (there : NamedThere file read) (head : word_at file 0 ≡ 0x1000_0000) (f : Ahead file read 1 Inputs [] []) where
  -- from the draft of a reader behind the head
  started : Wrote file read.wires 1 Inputs [] [] read.wires read.outputs
  started place =
      subst₂
      (λ (wires : List Wire) (outputs : List ℕ).
      write_from place (records_ahead file wires outputs) (draft_at file 1 Inputs [] [] (tables_ahead file read.wires wires)) ≡ wrote (tab (words_in file) (word_at file)))
      (sym f.wires_are) (sym f.outputs_are) (gates_on refl f.writes place)

  same_start : (tables : List ℕ) → blank tables ≡ draft_at file 1 Inputs [] [] tables
  unfolding blocks
  same_start tables =
      ap (λ (w : ℕ). record { moduli = []; given = 0; due = Inputs; tables = tables; words = w ∷ [] }) (sym head)

  written : write_records (records_of read.wires read.outputs read.named) (tables_of file read.wires) ≡ wrote (tab (words_in file) (word_at file))
  unfolding write_records
  written =
      ap₂ (write_from 0) (ap (records_of read.wires read.outputs) there.are)
      (ap (λ (tables : List ℕ). blank tables) (all_ahead file read.wires) ∙ same_start (tables_ahead file read.wires read.wires))
      ∙ started 0

-- order 1: any accepted file comes out of the writer as the same words
pub read_is_written : ReadIsWritten
unfolding read_file records_read tables_read
read_is_written file b e =
    let so : Ahead file (read_file file) 1 Inputs [] [] × (word_at file 0 ≡ 0x1000_0000) = begun file b (has_head file) refl e in
    record { words = written file (read_file file) (named-there file) so.1 so.0; bytes = whole_words file b so.0.sized }
