-- What each arm of the match on a recipe goes by: where the recipe is known, so is what its rows rest on, and which rows they are.
-- Assumes nothing.
use mathlib.Core.Path.{◌≡◌, refl, sym, ap, subst, ◌∙◌}
use mathlib.Core.Logic.{◌⊎◌}
use mathlib.Core.Logic.◌⊎◌.{inl, inr}
use mathlib.Core.List.{List, [], ◌∷◌}
use Prim.Native.Nat.{ℕ, ◌*◌}
use native.Mathlib.Nat.{zero-mul}
use native.Mathlib.Omega.{arith}
use lib.ListN.{length, get_or}
use Rattle.words.specs.declared.gate.Pair.{Pair}
use Rattle.words.specs.declared.gate.Scaling.{Scaling}
use Rattle.words.specs.declared.gate.Choice.{Choice as Chosen}
use Rattle.counts.specs.declared.recipe.Lookup.{Lookup}
use Rattle.counts.specs.declared.recipe.Recipe.{Recipe}
use Rattle.counts.specs.declared.recipe.Recipe.TheVariants.{Entered, Sum, Multiple, Table, Product, Choice}
use Rattle.scheme.specs.Gate.{rows_from}
use Rattle.garbling.specs.declared.turn.Turn.{Turn}
use Rattle.garbling.specs.Source.{table_here, product_here, choice_here, rows_here, Sourced}

none : (xs : List ℕ) → length xs ≡ 0 → xs ≡ []
none [] e = refl
none (x ∷ xs) e = absurd (omega arith)

module _ {turn : Turn} {contributions ranks moduli keys masks file : List ℕ} {how : Recipe} {out : List ℕ}
    (s : Sourced turn contributions ranks moduli keys masks file how out) where
  known : {q : Recipe} → how ≡ q → Sourced turn contributions ranks moduli keys masks file q out
  known h = subst (λ (q : Recipe). Sourced turn contributions ranks moduli keys masks file q out) h s

  abbrev rows : Recipe → List ℕ
  rows q = rows_here turn contributions ranks moduli keys masks file q

  so : {q : Recipe} {xs : List ℕ} → how ≡ q → xs ≡ rows q → xs ≡ rows how
  so h k = k ∙ ap rows (sym h)

  entered-rows : how ≡ Entered → out ≡ rows how
  unfolding rows_from
  entered-rows h = so h (none out ((known h).room ∙ zero-mul (turn.n * turn.k)))

  sum_rows : {g : Pair} → how ≡ Sum g → out ≡ rows how
  unfolding rows_from
  sum_rows h = so h (none out ((known h).room ∙ zero-mul (turn.n * turn.k)))

  multiple_rows : {g : Scaling} → how ≡ Multiple g → out ≡ rows how
  unfolding rows_from
  multiple_rows h = so h (none out ((known h).room ∙ zero-mul (turn.n * turn.k)))

  -- a wire without rows
  pub no_rows : (how ≡ Entered) ⊎ (((g : Pair) × (how ≡ Sum g)) ⊎ ((g : Scaling) × (how ≡ Multiple g))) → out ≡ rows how
  no_rows h = elim h [ inl e ↦ entered-rows e | inr r ↦ elim r [ inl p ↦ sum_rows p.1 | inr p ↦ multiple_rows p.1 ] ]

  pub table-rows : {g : Lookup} {xs : List ℕ} → how ≡ Table g → xs ≡ table_here turn contributions ranks keys masks file g (get_or moduli g.a 0) → xs ≡ rows how
  unfolding rows_from
  table-rows h k = so h k

  pub product-rows : {g : Pair} {xs : List ℕ} → how ≡ Product g → xs ≡ product_here turn contributions ranks keys masks g → xs ≡ rows how
  unfolding rows_from
  product-rows h k = so h k

  pub choice-rows : {g : Chosen} {xs : List ℕ} → how ≡ Choice g → xs ≡ choice_here turn contributions ranks keys masks g → xs ≡ rows how
  unfolding rows_from
  choice-rows h k = so h k
