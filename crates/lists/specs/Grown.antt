-- A list that grows at its end: each element is made from its place and from the elements before it.
-- Assumes nothing.
use Rattle.std.specs.Prelude.{List, [], ◌∷◌, ◌++◌, ℕ, zero, suc}

-- a list with one element more, made from it
unfoldable pub extended : {A : Type 0} → (List A → A) → List A → List A
extended make before = before ++ (make before ∷ [])

-- the first n elements, where element i is `make i` of those before it
unfoldable pub grown : {A : Type 0} → (ℕ → List A → A) → ℕ → List A
grown make zero = []
grown make (suc n) = extended (make n) (grown make n)
