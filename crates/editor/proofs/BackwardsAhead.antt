-- What an accepted reading still reads from an index on, the writer still writes: by what is due there, and one law for each thing that an item does, from what
-- comes behind it.
-- Assumes nothing.
use mathlib.Core.Path.{◌≡◌, refl, sym, ap, ◌∙◌}
use mathlib.Core.Bool.{true}
use mathlib.Core.List.{List, [], ◌∷◌, ◌++◌, map, append-nil}
use Prim.Native.Nat.{ℕ, zero, suc, ◌+◌, ◌-◌, ◌*◌, ◌≤◌, ◌<◌}
use native.Mathlib.Omega.{arith}
use lib.ListN.{length, get_or}
use lib.Seq.{append_snoc}
use Rattle.words.specs.Bits.{word_at}
use Rattle.words.specs.Items.{judged, gate_due, output_due, after_entry, wire_of}
use Rattle.words.specs.declared.gate.Gate.TheVariants.{Project, Select}
use Rattle.words.specs.declared.gate.Wire.{Wire}
use Rattle.words.specs.declared.gate.Due.{Due}
use Rattle.words.specs.declared.gate.Due.TheVariants.{Inputs, Gates, Outputs, Entries, Branches}
use Rattle.words.specs.declared.gate.Step.{Step}
use Rattle.words.specs.declared.gate.Step.TheVariants.{Makes, Goes, Gives, Ends}
use Rattle.words.specs.declared.item.Item.{Item}
use Rattle.circuit.specs.Wires.{moduli_of, modulus_at}
use Rattle.circuit.specs.File.{Read, accepted, words_in}
use Rattle.circuit.proofs.More.{made, modulus-of, modulus-kept}
use Rattle.editor.proofs.Decoded.{Spells, image-of}
use Rattle.circuit.proofs.State.{not-true}
use Rattle.editor.proofs.BackwardsTables.{images}
use Rattle.editor.proofs.BackwardsItems.{gate_output, Single}
use Rattle.editor.proofs.BackwardsWrote.{Wrote, WroteOn, wrote_one, wrote_table, wrote_entry, wrote_last, wrote_select, wrote_branches, wrote_output, wrote_end}

-- what the writer still writes, by what is due: behind the first output no wire comes, and the outputs to come are the words up to the file's last one
pub data Writes (file : List ℕ) (all : List Wire) (at : ℕ) (wires : List Wire) (outputs : List ℕ) : Due → List Wire → List ℕ → Type 0 where
  at-gates :
      {due : Due} {more : List Wire} {others : List ℕ}
      → gate_due due ≡ true
      → Wrote file all at due wires outputs more others
      → Writes file all at wires outputs due more others
  at_outputs :
      {others : List ℕ}
      → at + length others ≡ words_in file - 1
      → Wrote file all at Outputs wires outputs [] others
      → Writes file all at wires outputs Outputs [] others
  in_entries :
      {left q : ℕ} {more : List Wire} {others : List ℕ}
      → WroteOn file all at (Entries left q) wires outputs (map Item.Entry (images file at left)) more others
      → Writes file all at wires outputs (Entries left q) more others
  in_branches :
      {bit a b modulus : ℕ} {more : List Wire} {others : List ℕ}
      → WroteOn file all at (Branches bit) wires outputs (Item.Branches a b ∷ []) more others
      → Writes file all at wires outputs (Branches bit) (wire_of (Select (record { bit = bit; a = a; b = b })) modulus ∷ more) others

-- the wires and outputs to come, up to those of an accepted reading; and the file has whole words
pub record Ahead (file : List ℕ) (read : Read) (at : ℕ) (due : Due) (wires : List Wire) (outputs : List ℕ) : Type 0 where
  pub more : List Wire
  pub others : List ℕ
  pub wires_are : read.wires ≡ wires ++ more
  pub outputs_are : read.outputs ≡ outputs ++ others
  pub sized : length file ≡ 4 * words_in file
  pub writes : Writes file read.wires at wires outputs due more others

-- what is written where gates are due; where entries are; and where no wire comes any more
module _ {file : List ℕ} {all : List Wire} {at : ℕ} {wires : List Wire} {outputs : List ℕ} where
  pub gates_on :
      {due : Due} {more : List Wire} {others : List ℕ}
      → gate_due due ≡ true
      → Writes file all at wires outputs due more others
      → Wrote file all at due wires outputs more others
  gates_on e (at-gates f w) = w
  gates_on e (at_outputs l w) = not-true e
  gates_on e (in_entries w) = not-true e
  gates_on e (in_branches w) = not-true e

  entries_on :
      {left q : ℕ} {more : List Wire} {others : List ℕ}
      → Writes file all at wires outputs (Entries left q) more others
      → WroteOn file all at (Entries left q) wires outputs (map Item.Entry (images file at left)) more others
  entries_on (at-gates f w) = not-true f
  entries_on (in_entries w) = w

  no_more :
      (due : Due) (others : List ℕ)
      → output_due due ≡ true
      → at + length others ≡ words_in file - 1
      → Wrote file all at due wires outputs [] others
      → Writes file all at wires outputs due [] others
  no_more Inputs others e l w = at-gates refl w
  no_more Gates others e l w = at-gates refl w
  no_more Outputs others e l w = at_outputs l w
  no_more (Entries left q) others e l w = not-true e
  no_more (Branches bit) others e l w = not-true e

-- An item of a reading at an index, what it does there, and what comes behind it.
module _ (file : List ℕ) (read : Read) (at : ℕ) (wires : List Wire) (outputs : List ℕ) where
  -- its word stands there, and this is what it does
  pub record Here (due : Due) (x : Item) (s : Step) : Type 0 where
    pub stands : Spells (word_at file at) x
    pub did : judged (moduli_of wires) (length outputs) at due x ≡ s

  -- the wire made here is the first of those to come
  wire_first :
      {due later : Due} (wire : Wire) (f : Ahead file read (suc at) later (wires ++ (wire ∷ [])) outputs)
      → (read.wires ≡ wires ++ (wire ∷ f.more) → Writes file read.wires at wires outputs due (wire ∷ f.more) f.others)
      → Ahead file read at due wires outputs
  wire_first wire f w =
      let all : read.wires ≡ wires ++ (wire ∷ f.more) = f.wires_are ∙ append_snoc wires wire f.more in
      record { more = wire ∷ f.more; others = f.others; wires_are = all; outputs_are = f.outputs_are; sized = f.sized; writes = w all }

  -- no wire is made here
  no-wire :
      {due later : Due} (f : Ahead file read (suc at) later wires outputs)
      → Writes file read.wires at wires outputs due f.more f.others
      → Ahead file read at due wires outputs
  no-wire f w = record { more = f.more; others = f.others; wires_are = f.wires_are; outputs_are = f.outputs_are; sized = f.sized; writes = w }

  -- a wire of one word
  pub make_one :
      {due later : Due} {x : Item} {wire : Wire}
      → gate_due due ≡ true
      → gate_due later ≡ true
      → Single wire x
      → Here due x (Makes wire later)
      → Ahead file read (suc at) later (wires ++ (wire ∷ [])) outputs
      → Ahead file read at due wires outputs
  make_one {due} {later} {x} {wire} here there one h f =
      wire_first wire f λ all.
      at-gates here
      (wrote_one file read.wires at due wires outputs x wire later f.more f.others h.stands.word h.did one (gate_output later there)
      (gates_on there f.writes))

  -- all wires, of which these are the first
  modulus_same : (more : List Wire) (a : ℕ) → a < length (moduli_of wires) → read.wires ≡ wires ++ more → modulus_at read.wires a ≡ get_or (moduli_of wires) a 0
  modulus_same more a l e = rw e (modulus-kept wires more a (rw made at l) ∙ sym (modulus-of wires a))

  -- a projection: its entries follow
  pub begin_table :
      {due : Due} {q a : ℕ}
      → gate_due due ≡ true
      → a < length (moduli_of wires)
      → Here due (Item.Project q a) (Makes (wire_of (Project (record { a = a; table = at + 1 })) q) (Entries (get_or (moduli_of wires) a 0) q))
      → Ahead file read (suc at) (Entries (get_or (moduli_of wires) a 0) q) (wires ++ (wire_of (Project (record { a = a; table = at + 1 })) q ∷ [])) outputs
      → Ahead file read at due wires outputs
  begin_table {due} {q} {a} here l h f =
      wire_first (wire_of (Project (record { a = a; table = at + 1 })) q) f λ all.
      at-gates here
      (wrote_table file read.wires at due wires outputs a q f.more f.others h.stands.word h.did (modulus_same _ a l all)
      (entries_on f.writes))

  -- an entry, where so many are left
  pub take-entry :
      (left : ℕ) {q i : ℕ}
      → 0 < left
      → Here (Entries left q) (Item.Entry i) (Goes (after_entry left q))
      → Ahead file read (suc at) (after_entry left q) wires outputs
      → Ahead file read at (Entries left q) wires outputs
  unfolding after_entry
  take-entry zero l h f = absurd (omega arith)
  take-entry (suc zero) {q} {i} l h f =
      no-wire f
      (in_entries
      (wrote_last file read.wires at (Entries 1 q) wires outputs i Gates f.more f.others h.stands.word (image-of _ i h.stands) h.did refl
      (gates_on refl f.writes)))
  take-entry (suc (suc n)) {q} {i} l h f =
      no-wire f
      (in_entries
      (wrote_entry file read.wires at (Entries (suc (suc n)) q) wires outputs i (suc n) (Entries (suc n) q) f.more f.others h.stands.word
      (image-of _ i h.stands) h.did
      (entries_on f.writes)))

  -- a selection: its branches follow
  pub begin_choice :
      {due : Due} {bit : ℕ}
      → gate_due due ≡ true
      → Here due (Item.Select bit) (Goes (Branches bit))
      → Ahead file read (suc at) (Branches bit) wires outputs
      → Ahead file read at due wires outputs
  begin_choice {due} {bit} here h f = no-wire f (chosen f.writes)
    where
      chosen :
          {more : List Wire} {others : List ℕ}
          → Writes file read.wires (suc at) wires outputs (Branches bit) more others
          → Writes file read.wires at wires outputs due more others
      chosen (at-gates g w) = not-true g
      chosen (in_branches {a = a} {b} {modulus} {more} {others} w) =
          at-gates here (wrote_select file read.wires at due wires outputs bit a b modulus more others h.stands.word h.did w)

  pub take-branches :
      {bit a b modulus : ℕ}
      → Here (Branches bit) (Item.Branches a b) (Makes (wire_of (Select (record { bit = bit; a = a; b = b })) modulus) Gates)
      → Ahead file read (suc at) Gates (wires ++ (wire_of (Select (record { bit = bit; a = a; b = b })) modulus ∷ [])) outputs
      → Ahead file read at (Branches bit) wires outputs
  take-branches {bit} {a} {b} {modulus} h f =
      wire_first (wire_of (Select (record { bit = bit; a = a; b = b })) modulus) f λ all.
      in_branches
      (wrote_branches file read.wires at (Branches bit) wires outputs (Item.Branches a b) _ f.more f.others h.stands.word h.did
      (gates_on refl f.writes))

  -- an output: no wire comes behind it
  pub give_one :
      {due : Due} {n a : ℕ}
      → output_due due ≡ true
      → Here due (Item.Output n a) (Gives a)
      → Ahead file read (suc at) Outputs wires (outputs ++ (a ∷ []))
      → Ahead file read at due wires outputs
  give_one {due} {n} {a} here h f =
      record {
        more = f.more;
        others = a ∷ f.others;
        wires_are = f.wires_are;
        outputs_are = f.outputs_are ∙ append_snoc outputs a f.others;
        sized = f.sized;
        writes = given f.writes;
      }
    where
      given :
          {more : List Wire} {others : List ℕ}
          → Writes file read.wires (suc at) wires (outputs ++ (a ∷ [])) Outputs more others
          → Writes file read.wires at wires outputs due more (a ∷ others)
      given (at-gates g w) = not-true g
      given (at_outputs {others} l w) =
          let there : at + length (a ∷ others) ≡ words_in file - 1 = omega (arith, l) in
          no_more due (a ∷ others) here there (wrote_output file read.wires at due wires outputs n a others h.stands h.did there w)

  -- the end word, behind which no byte stands
  pub end_here :
      {due : Due} {names : List ℕ}
      → output_due due ≡ true
      → at < words_in file
      → length file ≤ 4 * suc at
      → Here due Item.End Ends
      → accepted wires outputs names ≡ read
      → Ahead file read at due wires outputs
  end_here {due} here inside size h e =
      record {
        more = [];
        others = [];
        wires_are = sym (ap (λ (r : Read). r.wires) e) ∙ sym (append-nil wires);
        outputs_are = sym (ap (λ (r : Read). r.outputs) e) ∙ sym (append-nil outputs);
        sized = omega arith;
        writes = no_more due [] here (omega arith) (wrote_end file read.wires at due wires outputs h.stands.word h.did (omega arith));
      }
