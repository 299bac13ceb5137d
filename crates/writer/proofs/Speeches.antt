-- Laws of what a record says, by its kind.
-- Assumes nothing.
use mathlib.Core.Path.{◌≡◌, refl, sym, ap, subst, ◌∙◌}
use mathlib.Core.Bool.{Bool, true, false, ◌&&◌, cond, and-true}
use mathlib.Core.List.{List, [], ◌∷◌}
use Prim.Native.Nat.{ℕ, zero, suc, ◌<◌}
use borrow.Author.Tests.{lt-ltb}
use lib.Dec.{eqb, ltb}
use lib.ListN.{get_or}
use Rattle.words.specs.declared.item.Item.{Item}
use Rattle.writer.specs.declared.entry.Record.{Record}
use Rattle.writer.specs.declared.speech.Rest.{Rest}
use Rattle.writer.specs.declared.speech.Rest.TheVariants.{Alone, Table}
use Rattle.writer.specs.declared.speech.Said.{Said}
use Rattle.std.specs.Prelude.{Option, None}
use Rattle.writer.specs.Says.{Speech, nothing, items, spoken, speech_of_kind, speech_of}
use Rattle.writer.specs.Desk.{Desk, Means, saying, unset, refuse, lay_item, lay_table, rest_on, spoken_on}

-- the kind is known
pub of_kind :
    (moduli tables : List ℕ) (r : Record) (kind : ℕ) {says : Speech}
    → r.kind ≡ kind
    → get_or (speech_of_kind moduli tables r) kind nothing ≡ says
    → speech_of moduli tables r ≡ says
of_kind moduli tables r kind e f = ap (λ (k : ℕ). get_or (speech_of_kind moduli tables r) k nothing) e ∙ f

-- .. and so is whether the other fields are not set
module _ (moduli tables : List ℕ) where
  told : (test : Bool) {first : Item} {rest : Rest} {says : List Item} {left : List ℕ} → Means moduli tables (saying first rest) (items says left)
      → Means moduli tables (cond test (saying first rest) None) (spoken test says left)
  unfolding spoken
  told true m = m
  told false m = Means.silent

  pub said :
      (r : Record) (kind : ℕ) {unset test : Bool} {speaks : Option Said} {first : Item} {rest : Rest} {says : List Item} {left : List ℕ}
      → r.kind ≡ kind
      → get_or (speech_of_kind moduli tables r) kind nothing ≡ spoken test says left
      → unset ≡ test
      → speaks ≡ cond unset (saying first rest) None
      → Means moduli tables (saying first rest) (items says left)
      → Means moduli tables speaks (speech_of moduli tables r)
  said r kind {unset} {test} {speaks} {first} {rest} {says} {left} k e u f m =
      subst (λ (x : Option Said). Means moduli tables x (speech_of moduli tables r)) (sym (f ∙ ap (λ (b : Bool). cond b (saying first rest) None) u))
      (subst (λ (x : Speech). Means moduli tables (cond test (saying first rest) None) x) (sym (of_kind moduli tables r kind k e)) (told test m))

-- the fields that a kind does not use, tested one after another
pub unset_four : (p q r s : ℕ) → unset (p ∷ q ∷ r ∷ s ∷ []) ≡ (eqb p 0 && (eqb q 0 && (eqb r 0 && eqb s 0)))
unset_four p q r s = ap (λ (b : Bool). eqb p 0 && (eqb q 0 && (eqb r 0 && b))) (and-true (eqb s 0))

pub unset_five : (p q r s t : ℕ) → unset (p ∷ q ∷ r ∷ s ∷ t ∷ []) ≡ (eqb p 0 && (eqb q 0 && (eqb r 0 && (eqb s 0 && eqb t 0))))
unset_five p q r s t = ap (λ (b : Bool). eqb p 0 && (eqb q 0 && (eqb r 0 && (eqb s 0 && b)))) (and-true (eqb t 0))

-- an output's parties are a byte, so that the code need not ask whether they are
pub output_unset : (r : Record) → r.named < 256 → {unset : Bool}
    → unset ≡ (eqb r.modulus 0 && (eqb r.owner 0 && (eqb r.constant 0 && (eqb r.bit 0 && eqb r.b 0))))
    → unset ≡ (eqb r.modulus 0 && (eqb r.owner 0 && (eqb r.constant 0 && (eqb r.bit 0 && (eqb r.b 0 && ltb r.named 256)))))
output_unset r h u =
    u
    ∙ ap (λ (t : Bool). eqb r.modulus 0 && (eqb r.owner 0 && (eqb r.constant 0 && (eqb r.bit 0 && t))))
    (sym (ap (λ (t : Bool). eqb r.b 0 && t) (lt-ltb r.named 256 h) ∙ and-true (eqb r.b 0)))

-- a record of no such kind says nothing
none-at :
    (moduli tables : List ℕ) (r : Record) (kind : ℕ)
    → (kind ≡ 2 → ⊥)
    → (kind ≡ 3 → ⊥)
    → (kind ≡ 4 → ⊥)
    → (kind ≡ 5 → ⊥)
    → (kind ≡ 6 → ⊥)
    → (kind ≡ 8 → ⊥)
    → (kind ≡ 10 → ⊥)
    → get_or (speech_of_kind moduli tables r) kind nothing ≡ nothing
none-at moduli tables r zero n2 n3 n4 n5 n6 n8 n10 = refl
none-at moduli tables r (suc zero) n2 n3 n4 n5 n6 n8 n10 = refl
none-at moduli tables r (suc (suc zero)) n2 n3 n4 n5 n6 n8 n10 = absurd (n2 refl)
none-at moduli tables r (suc (suc (suc zero))) n2 n3 n4 n5 n6 n8 n10 = absurd (n3 refl)
none-at moduli tables r (suc (suc (suc (suc zero)))) n2 n3 n4 n5 n6 n8 n10 = absurd (n4 refl)
none-at moduli tables r (suc (suc (suc (suc (suc zero))))) n2 n3 n4 n5 n6 n8 n10 = absurd (n5 refl)
none-at moduli tables r (suc (suc (suc (suc (suc (suc zero)))))) n2 n3 n4 n5 n6 n8 n10 = absurd (n6 refl)
none-at moduli tables r (suc (suc (suc (suc (suc (suc (suc zero))))))) n2 n3 n4 n5 n6 n8 n10 = refl
none-at moduli tables r (suc (suc (suc (suc (suc (suc (suc (suc zero)))))))) n2 n3 n4 n5 n6 n8 n10 = absurd (n8 refl)
none-at moduli tables r (suc (suc (suc (suc (suc (suc (suc (suc (suc zero))))))))) n2 n3 n4 n5 n6 n8 n10 = refl
none-at moduli tables r (suc (suc (suc (suc (suc (suc (suc (suc (suc (suc zero)))))))))) n2 n3 n4 n5 n6 n8 n10 = absurd (n10 refl)
none-at moduli tables r (suc (suc (suc (suc (suc (suc (suc (suc (suc (suc (suc k))))))))))) n2 n3 n4 n5 n6 n8 n10 = refl

pub no_kind :
    (r : Record)
    → (r.kind ≡ 2 → ⊥)
    → (r.kind ≡ 3 → ⊥)
    → (r.kind ≡ 4 → ⊥)
    → (r.kind ≡ 5 → ⊥)
    → (r.kind ≡ 6 → ⊥)
    → (r.kind ≡ 8 → ⊥)
    → (r.kind ≡ 10 → ⊥)
    → (moduli tables : List ℕ)
    → speech_of moduli tables r ≡ nothing
no_kind r n2 n3 n4 n5 n6 n8 n10 moduli tables = none-at moduli tables r r.kind n2 n3 n4 n5 n6 n8 n10

-- what is said is done
module _ (lay : Bool) (tables : List ℕ) (place : ℕ) (d : Desk) {k : Desk} where
  pub nothing-done : {speaks : Option Said} → speaks ≡ None → k ≡ refuse place d d.pen.answer → k ≡ spoken_on lay tables place speaks d
  unfolding spoken_on
  nothing-done e f = f ∙ sym (ap (λ (x : Option Said). spoken_on lay tables place x d) e)

  pub says-done :
      {speaks : Option Said} {first : Item} {rest : Rest} {begun : Desk}
      → speaks ≡ saying first rest
      → begun ≡ lay_item lay place first d
      → k ≡ rest_on lay tables place rest begun
      → k ≡ spoken_on lay tables place speaks d
  unfolding spoken_on
  says-done {rest = rest} e b f = f ∙ ap (rest_on lay tables place rest) b ∙ sym (ap (λ (x : Option Said). spoken_on lay tables place x d) e)

  pub alone_done : {rest : Rest} → rest ≡ Alone → k ≡ d → k ≡ rest_on lay tables place rest d
  unfolding rest_on
  alone_done e f = f ∙ sym (ap (λ (x : Rest). rest_on lay tables place x d) e)

  pub table_done : {rest : Rest} → rest ≡ Table → k ≡ lay_table lay place tables d → k ≡ rest_on lay tables place rest d
  unfolding rest_on
  table_done e f = f ∙ sym (ap (λ (x : Rest). rest_on lay tables place x d) e)

  pub branches-done : {rest : Rest} {a b : ℕ} → rest ≡ Rest.Branches a b → k ≡ lay_item lay place (Item.Branches a b) d → k ≡ rest_on lay tables place rest d
  unfolding rest_on
  branches-done e f = f ∙ sym (ap (λ (x : Rest). rest_on lay tables place x d) e)
