-- What a record says, kind by kind, with the record that says it; and that no item of it is the end, or an output that names more than a byte.
-- Assumes nothing.
use mathlib.Core.Path.{◌≡◌, refl}
use mathlib.Core.Bool.{Bool, true, false, ◌&&◌}
use mathlib.Core.List.{List, [], ◌∷◌, map}
use Prim.Native.Nat.{ℕ, zero, suc}
use lib.Dec.{eqb, ltb}
use lib.ListN.{get_or, take, drop}
use borrow.Author.Tests.{eqb-true}
use Rattle.residue.proofs.Table.{and_left, and_right}
use Rattle.words.specs.Items.{pair_of}
use Rattle.words.specs.declared.gate.Gate.{Gate}
use Rattle.words.specs.declared.item.Item.{Item}
use Rattle.words.specs.declared.item.Item.TheVariants.{Input, Add, Scale, Multiply, Project, Entry, Select, Branches, Output}
use Rattle.writer.specs.declared.entry.Record.{Record}
use Rattle.writer.specs.Says.{Speech, nothing, items, spoken, speech_of_kind, speech_of}
use Rattle.writer.specs.Listed.{gate_record, output_record}
use Rattle.editor.proofs.ForwardsStep.{sayable}

-- the record of an item that is a record's only one
pub data Alone : Item → Record → Type 0 where
  input : {owner modulus : ℕ} → Alone (Input owner modulus) (gate_record (Gate.Input (record { owner = owner })) modulus)
  add : {a b : ℕ} → Alone (Add a b) (gate_record (Gate.Add (pair_of a b)) 0)
  scale : {constant a : ℕ} → Alone (Scale constant a) (gate_record (Gate.Scale (record { constant = constant; a = a })) 0)
  multiply : {a b : ℕ} → Alone (Multiply a b) (gate_record (Gate.Multiply (pair_of a b)) 0)
  output : {named a : ℕ} → ltb named 256 ≡ true → Alone (Output named a) (output_record a named)

pub data Spoken (moduli tables : List ℕ) : Record → Speech → Type 0 where
  silent : {r : Record} → Spoken moduli tables r nothing
  alone : {x : Item} {r : Record} → Alone x r → Spoken moduli tables r (items (x ∷ []) tables)
  project :
      {modulus a : ℕ}
      → Spoken moduli tables (gate_record (Gate.Project (record { a = a; table = 0 })) modulus)
      (items (Project modulus a ∷ map Entry (take (get_or moduli a 0) tables)) (drop (get_or moduli a 0) tables))
  select :
      {bit a b : ℕ}
      → Spoken moduli tables (gate_record (Gate.Select (record { bit = bit; a = a; b = b })) 0) (items (Select bit ∷ Branches a b ∷ []) tables)

-- a record by its fields
fields :
    (r : Record) {k m o c t a b n : ℕ}
    → r.kind ≡ k
    → r.modulus ≡ m
    → r.owner ≡ o
    → r.constant ≡ c
    → r.bit ≡ t
    → r.a ≡ a
    → r.b ≡ b
    → r.named ≡ n
    → r ≡ record { kind = k; modulus = m; owner = o; constant = c; bit = t; a = a; b = b; named = n }
fields r ek em eo ec et ea eb en =
    λ i. record { kind = ek i; modulus = em i; owner = eo i; constant = ec i; bit = et i; a = ea i; b = eb i; named = en i }

-- fields that are 0, of which the first is the first of the test
one : (n : ℕ) → eqb n 0 ≡ true → n ≡ 0
one n e = eqb-true n 0 e

first : (n : ℕ) (others : Bool) → (eqb n 0 && others) ≡ true → n ≡ 0
first n others e = eqb-true n 0 (and_left (eqb n 0) others e)

others : (n : ℕ) (rest : Bool) → (eqb n 0 && rest) ≡ true → rest ≡ true
others n rest e = and_right (eqb n 0) rest e

module _ (moduli tables : List ℕ) (r : Record) where
  whether :
      {says : List Item} {left : List ℕ} (b : Bool)
      → (b ≡ true → Spoken moduli tables r (items says left))
      → Spoken moduli tables r (spoken b says left)
  unfolding spoken
  whether true f = f refl
  whether false f = Spoken.silent

  as_said : {x : Record} {s : Speech} → r ≡ x → Spoken moduli tables x s → Spoken moduli tables r s
  as_said e f = rw e f

  of_kind : (k : ℕ) → r.kind ≡ k → Spoken moduli tables r (get_or (speech_of_kind moduli tables r) k nothing)
  of_kind zero e = Spoken.silent
  of_kind (suc zero) e = Spoken.silent
  -- input
  of_kind (suc (suc zero)) e =
      whether _ λ z.
      let y = others r.constant _ z in
      let x = others r.bit _ y in
      let v = others r.a _ x in
      as_said
      (fields r e refl refl (first r.constant _ z) (first r.bit _ y) (first r.a _ x) (first r.b _ v) (one r.named (others r.b _ v)))
      (Spoken.alone Alone.input)
  -- add
  of_kind (suc (suc (suc zero))) e =
      whether _ λ z.
      let y = others r.modulus _ z in
      let x = others r.owner _ y in
      let v = others r.constant _ x in
      as_said
      (fields r e (first r.modulus _ z) (first r.owner _ y) (first r.constant _ x) (first r.bit _ v) refl refl (one r.named (others r.bit _ v)))
      (Spoken.alone Alone.add)
  -- scale
  of_kind (suc (suc (suc (suc zero)))) e =
      whether _ λ z.
      let y = others r.modulus _ z in
      let x = others r.owner _ y in
      let v = others r.bit _ x in
      as_said
      (fields r e (first r.modulus _ z) (first r.owner _ y) refl (first r.bit _ x) refl (first r.b _ v) (one r.named (others r.b _ v)))
      (Spoken.alone Alone.scale)
  -- multiply
  of_kind (suc (suc (suc (suc (suc zero))))) e =
      whether _ λ z.
      let y = others r.modulus _ z in
      let x = others r.owner _ y in
      let v = others r.constant _ x in
      as_said
      (fields r e (first r.modulus _ z) (first r.owner _ y) (first r.constant _ x) (first r.bit _ v) refl refl (one r.named (others r.bit _ v)))
      (Spoken.alone Alone.multiply)
  -- project
  of_kind (suc (suc (suc (suc (suc (suc zero)))))) e =
      whether _ λ z.
      let y = others r.owner _ z in
      let x = others r.constant _ y in
      let v = others r.bit _ x in
      as_said
      (fields r e refl (first r.owner _ z) (first r.constant _ y) (first r.bit _ x) refl (first r.b _ v) (one r.named (others r.b _ v)))
      Spoken.project
  of_kind (suc (suc (suc (suc (suc (suc (suc zero))))))) e = Spoken.silent
  -- select
  of_kind (suc (suc (suc (suc (suc (suc (suc (suc zero)))))))) e =
      whether _ λ z.
      let y = others r.modulus _ z in
      let x = others r.owner _ y in
      as_said
      (fields r e (first r.modulus _ z) (first r.owner _ y) (first r.constant _ x) refl refl refl (one r.named (others r.constant _ x)))
      Spoken.select
  of_kind (suc (suc (suc (suc (suc (suc (suc (suc (suc zero))))))))) e = Spoken.silent
  -- output
  of_kind (suc (suc (suc (suc (suc (suc (suc (suc (suc (suc zero)))))))))) e =
      whether _ λ z.
      let y = others r.modulus _ z in
      let x = others r.owner _ y in
      let v = others r.constant _ x in
      let u = others r.bit _ v in
      as_said
      (fields r e (first r.modulus _ z) (first r.owner _ y) (first r.constant _ x) (first r.bit _ v) refl (first r.b _ u) refl)
      (Spoken.alone (Alone.output (others r.b _ u)))
  of_kind (suc (suc (suc (suc (suc (suc (suc (suc (suc (suc (suc k))))))))))) e = Spoken.silent

  pub speaking : Spoken moduli tables r (speech_of moduli tables r)
  speaking = of_kind r.kind refl

-- items that a record may say
pub data AllSayable : List Item → Type 0 where
  none : AllSayable []
  more : {x : Item} {xs : List Item} → sayable x ≡ true → AllSayable xs → AllSayable (x ∷ xs)

entries_sayable : (images : List ℕ) → AllSayable (map Entry images)
entries_sayable [] = AllSayable.none
entries_sayable (image ∷ images) = AllSayable.more refl (entries_sayable images)

pub alone_sayable : {x : Item} {r : Record} → Alone x r → sayable x ≡ true
alone_sayable Alone.input = refl
alone_sayable Alone.add = refl
alone_sayable Alone.scale = refl
alone_sayable Alone.multiply = refl
alone_sayable (Alone.output byte) = byte

pub all_sayable : {moduli tables : List ℕ} {r : Record} {says : List Item} {left : List ℕ} → Spoken moduli tables r (items says left) → AllSayable says
all_sayable (Spoken.alone only) = AllSayable.more (alone_sayable only) AllSayable.none
all_sayable {moduli} {tables} (Spoken.project {modulus} {a}) = AllSayable.more refl (entries_sayable (take (get_or moduli a 0) tables))
all_sayable Spoken.select = AllSayable.more refl (AllSayable.more refl AllSayable.none)
